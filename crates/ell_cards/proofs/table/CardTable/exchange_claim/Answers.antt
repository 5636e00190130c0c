use Rattle.std.proofs.Common.{◌∙◌, ◌==◌, refl, ap}
use prog.Atomic.{either}
use Rattle.ell_cards.proofs.lemmas.seats.Opened.{stepped}
use Rattle.ell_cards.proofs.lemmas.whole.Standings.{same_standing}
use Rattle.ell_cards.proofs.lemmas.whole.Skipping.{claim_owed}
use Rattle.ell_cards.proofs.table.CardTable.exchange_claim.Goals as goal

pub compare_exchange-found-requires : goal.compare_exchange-found-requires
compare_exchange-found-requires g c =
    claim_owed _ _ _ _ c.self.view_is c.pass.view_is c.requires.own c.self.invariant.words c.self.invariant.fit c.pass.inside.seat.me.0 refl c.pass.inside.seat.id c.pass.inside.seat.me.1
    (λ n. either (n == c.args.card) c.args.next n) g.J.Telling.then refl c.pass.invariant.stands.lost c.self.invariant.bare c.pass.invariant.bare c.requires.rule

pub invariant_of-pass : goal.invariant_of-pass
invariant_of-pass g c =
    let now = c.compare_exchange-found.ensures in record {
      fits = stepped _ _ _ _ c.self.view_is c.pass.view_is c.requires.own c.self.invariant.words c.self.invariant.fit c.pass.inside.keys.items c.pass.inside.share _ _ _ g.J.Telling.then
          c.self.invariant.limit c.pass.invariant.fits (ap (λ i. i.words) now.0) c.requires.keeps now.2.0;
      bare = now.2.2 ∙ c.pass.invariant.bare;
      stands = same_standing _ _ _ _ _ (ap (λ i. i.words) now.0) now.2.1 c.pass.invariant.stands;
    }
