use Rattle.std.specs.Prelude.{◌≡◌}
use Rattle.ell_cards.specs.Epochs.{after_advance}
use Rattle.ell_cards.proofs.table.CardTable.advance_from.Given as goal

abbrev pub ghosts-epoch_exchange : goal.ghosts-epoch_exchange
ghosts-epoch_exchange g a = record { then = λ n p. p ≡ after_advance a.expected a.seat.now.me.0.participant }
