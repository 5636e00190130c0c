use Rattle.std.proofs.Common.{◌∙◌, refl, sym, ap, subst}
use Rattle.ell_runs.specs.Calls.{Load}
use Rattle.ell_runs.specs.Seeing.{Marks}
use Rattle.ell_cards.specs.Shown.{shown}
use Rattle.ell_cards.proofs.lemmas.seats.Opened.{owed_marked, stepped}
use Rattle.ell_cards.proofs.lemmas.whole.Calling.Notes.{nothing}
use Rattle.ell_cards.proofs.lemmas.whole.Calling.{load_flags, load_does, load_stores}
use Rattle.ell_cards.proofs.lemmas.whole.Lifts.{stores_word, plain_shown}
use Rattle.ell_cards.proofs.lemmas.whole.Standings.{same_standing}
use Rattle.ell_cards.proofs.table.CardTable.load_marked_as.Goals as goal

pub load-requires : goal.load-requires
load-requires g c =
    let x = owed_marked _ _ _ _ c.self.view_is c.pass.view_is c.requires.own c.self.invariant.words c.self.invariant.fit c.pass.inside.seat.me.0 refl c.pass.inside.seat.id refl refl c.pass.inside.seat.me.1 c.pass.inside.keys.items c.pass.inside.share c.pass.inside.standing c.args.word
    (λ n. n) g.J.Marking.then (λ n. c.pass.inside.seat.me.0.participant) c.args.call c.self.invariant.bare c.pass.invariant.bare c.pass.invariant.fits c.pass.invariant.stands (stores_word c.args.call Load c.requires.atomic tt (plain_shown c.args.call (load_stores c.args.call c.requires.atomic))) c.requires.word c.requires.may
    c.requires.kept (load_does c.args.self.now.plan c.args.call c.requires.atomic)
    (λ placed none. c.requires.quiet) (λ fill. absurd (load_stores c.args.call c.requires.atomic fill)) c.requires.tells (λ n small. nothing refl (λ some d flags. absurd (load_flags c.args.call c.requires.atomic d flags))) in (
      x.0,
      x.1,
      λ s holds homes here small. (let y = x.2 s holds homes here small in
          (y.0, y.1, y.2, y.3, (y.4.0, y.4.1, y.4.2, subst (λ d. Marks d (shown c.pass.inside.seat.me.0.tree) c.pass.inside.seat.me.0.sight y.0.sight) (sym c.requires.marks) y.4.3))),
    )

pub invariant_of-pass : goal.invariant_of-pass
invariant_of-pass g c =
    let now = c.load.ensures in record {
      fits = stepped _ _ _ _ c.self.view_is c.pass.view_is c.requires.own c.self.invariant.words c.self.invariant.fit c.pass.inside.keys.items c.pass.inside.share _ _ _ g.J.Marking.then
          c.self.invariant.limit c.pass.invariant.fits (ap (λ i. i.words) now.0) c.requires.keeps now.2.0;
      bare = now.2.2 ∙ c.pass.invariant.bare;
      stands = same_standing _ _ _ _ _ (ap (λ i. i.words) now.0) now.2.1 c.pass.invariant.stands;
    }
