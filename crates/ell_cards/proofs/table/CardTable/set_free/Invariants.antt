use Rattle.std.specs.Prelude.{◌≡◌}
use Rattle.ell_cards.specs.Epochs.{after_freeing}
use Rattle.ell_cards.proofs.table.CardTable.set_free.Given as goal

abbrev pub ghosts-epoch_exchange : goal.ghosts-epoch_exchange
ghosts-epoch_exchange g a = record { then = λ n p. p ≡ after_freeing a.seat.now.me.0.participant }
