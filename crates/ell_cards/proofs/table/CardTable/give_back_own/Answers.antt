use Rattle.std.proofs.Common.{◌≡◌, sym, subst}
use Rattle.ell_cards.specs.Epochs.{after_release}
use Rattle.ell_cards.specs.Stepping.{MayGoOn}
use Rattle.ell_cards.proofs.lemmas.whole.Going.{releases}
use Rattle.ell_cards.proofs.table.CardTable.give_back_own.Goals as goal

pub epoch_store-requires-clause-rule : goal.epoch_store-requires-clause-rule
epoch_store-requires-clause-rule g c =
    let k = c.args.seat.now.me.0 in
    subst (λ i. MayGoOn c.args.self.now.plan k i (λ _. 0) (λ _ p. p ≡ after_release k.participant)) (sym c.announcement_address.ensures.word)
    (releases c.args.self.now.plan c.args.slots c.requires.seat.slots k c.args.announcement c.requires.announcement c.requires.quiet)

pub returns-clause-free : goal.returns-clause-free
returns-clause-free g c = c.epoch_store.ensures.told
