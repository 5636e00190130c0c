use Rattle.std.proofs.Common.{◌∙◌, refl, ap, arith}
use Rattle.ell_cards.proofs.lemmas.seats.Opened.{owed, stepped}
use Rattle.ell_cards.proofs.lemmas.whole.Calling.Notes.{nothing}
use Rattle.ell_cards.proofs.lemmas.whole.Calling.{store_calm, store_flags, store_does}
use Rattle.ell_cards.proofs.lemmas.whole.Standings.{same_standing}
use Rattle.ell_cards.proofs.table.CardTable.store_as.Goals as goal

pub store-requires : goal.store-requires
store-requires g c =
    owed _ _ _ _ c.self.view_is c.pass.view_is c.requires.own c.self.invariant.words c.self.invariant.fit c.pass.inside.seat.me.0 refl c.pass.inside.seat.id refl refl c.pass.inside.seat.me.1 c.pass.inside.keys.items c.pass.inside.share c.pass.inside.standing c.args.word
    (λ _. c.args.value) (λ _. g.J.Telling.then c.args.value) (λ n. c.pass.inside.seat.me.0.participant) c.args.call c.self.invariant.bare c.pass.invariant.bare c.pass.invariant.fits c.pass.invariant.stands c.requires.stores c.requires.word c.requires.may
    c.requires.kept (store_does c.args.self.now.plan c.args.call c.args.value (omega arith) c.requires.atomic) (λ placed none. c.requires.quiet) (λ fill n m w says. says) c.requires.tells (λ n small. nothing refl (λ some d flags. absurd (store_flags c.args.call c.args.value c.requires.atomic d flags))) (store_calm c.args.call c.args.value c.requires.atomic)

pub invariant_of-pass : goal.invariant_of-pass
invariant_of-pass g c =
    let now = c.store.ensures in record {
      fits = stepped _ _ _ _ c.self.view_is c.pass.view_is c.requires.own c.self.invariant.words c.self.invariant.fit c.pass.inside.keys.items c.pass.inside.share _ _ _ g.J.Telling.then
          c.self.invariant.limit c.pass.invariant.fits (ap (λ i. i.words) now.0) c.requires.keeps now.2.0;
      bare = now.2.2 ∙ c.pass.invariant.bare;
      stands = same_standing _ _ _ _ _ (ap (λ i. i.words) now.0) now.2.1 c.pass.invariant.stands;
    }
