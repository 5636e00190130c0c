use Rattle.std.proofs.Common.{◌≡◌, ◌+◌, ◌==◌, sym, subst}
use prog.Atomic.{either}
use Rattle.ell_cards.specs.Epochs.{after_advance}
use Rattle.ell_cards.specs.Stepping.{MayGoOn}
use Rattle.ell_cards.proofs.lemmas.whole.Going.{advance_goes_on}
use Rattle.ell_cards.proofs.table.CardTable.advance_from.Goals as goal

pub epoch_exchange-requires-clause-rule : goal.epoch_exchange-requires-clause-rule
epoch_exchange-requires-clause-rule g c =
    let k = c.args.seat.now.me.0 in
    let epoch = c.args.epoch in
    subst (λ i. MayGoOn c.args.self.now.plan k i (λ n. either (n == epoch) (epoch + 1) n) (λ n p. p ≡ after_advance epoch k.participant)) (sym c.epoch_address.ensures.word)
    (advance_goes_on c.args.self.now.plan c.args.slots c.requires.seat.slots k epoch c.requires.read c.requires.low)
