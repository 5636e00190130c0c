use Rattle.std.proofs.Common.{◌≡◌, sym, subst}
use Rattle.ell_cards.specs.Epochs.{after_retract}
use Rattle.ell_cards.specs.Stepping.{MayGoOn}
use Rattle.ell_cards.proofs.lemmas.whole.Going.{retracts}
use Rattle.ell_cards.proofs.table.CardTable.retract.Goals as goal

pub epoch_store-requires-clause-rule : goal.epoch_store-requires-clause-rule
epoch_store-requires-clause-rule g c =
    let k = c.args.seat.now.me.0 in
    subst (λ i. MayGoOn c.args.self.now.plan k i (λ _. 1) (λ _ p. p ≡ after_retract k.participant)) (sym c.announcement_address.ensures.word)
    (retracts c.args.self.now.plan c.args.slots c.requires.seat.slots k c.args.announcement c.requires.announcement c.requires.rest)

pub returns-clause-announced : goal.returns-clause-announced
returns-clause-announced g c = c.epoch_store.ensures.told
