use Rattle.std.proofs.Common.{◌∙◌, refl, ap}
use Rattle.ell_runs.specs.Calls.{Load}
use Rattle.ell_cards.proofs.lemmas.seats.Opened.{owed, stepped}
use Rattle.ell_cards.proofs.lemmas.whole.Calling.Notes.{nothing}
use Rattle.ell_cards.proofs.lemmas.whole.Calling.{load_flags, load_does, load_stores}
use Rattle.ell_cards.proofs.lemmas.whole.Lifts.{stores_word, plain_shown}
use Rattle.ell_cards.proofs.lemmas.whole.Standings.{same_standing}
use Rattle.ell_cards.proofs.table.CardTable.load_as.Goals as goal

pub load-requires : goal.load-requires
load-requires g c =
    owed _ _ _ _ c.self.view_is c.pass.view_is c.requires.own c.self.invariant.words c.self.invariant.fit c.pass.inside.seat.me.0 refl c.pass.inside.seat.id refl refl c.pass.inside.seat.me.1 c.pass.inside.keys.items c.pass.inside.share c.pass.inside.standing c.args.word
    (λ n. n) g.J.Telling.then (λ n. c.pass.inside.seat.me.0.participant) c.args.call c.self.invariant.bare c.pass.invariant.bare c.pass.invariant.fits c.pass.invariant.stands (stores_word c.args.call Load c.requires.atomic tt (plain_shown c.args.call (load_stores c.args.call c.requires.atomic))) c.requires.word c.requires.may
    c.requires.kept (load_does c.args.self.now.plan c.args.call c.requires.atomic)
    (λ placed none. c.requires.quiet) (λ fill. absurd (load_stores c.args.call c.requires.atomic fill)) c.requires.tells (λ n small. nothing refl (λ some d flags. absurd (load_flags c.args.call c.requires.atomic d flags))) c.requires.calm

pub invariant_of-pass : goal.invariant_of-pass
invariant_of-pass g c =
    let now = c.load.ensures in record {
      fits = stepped _ _ _ _ c.self.view_is c.pass.view_is c.requires.own c.self.invariant.words c.self.invariant.fit c.pass.inside.keys.items c.pass.inside.share _ _ _ g.J.Telling.then
          c.self.invariant.limit c.pass.invariant.fits (ap (λ i. i.words) now.0) c.requires.keeps now.2.0;
      bare = now.2.2 ∙ c.pass.invariant.bare;
      stands = same_standing _ _ _ _ _ (ap (λ i. i.words) now.0) now.2.1 c.pass.invariant.stands;
    }
