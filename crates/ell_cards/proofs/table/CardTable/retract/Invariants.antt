use Rattle.std.specs.Prelude.{◌≡◌}
use Rattle.ell_cards.specs.Epochs.{after_retract}
use Rattle.ell_cards.proofs.table.CardTable.retract.Given as goal

abbrev pub ghosts-epoch_store : goal.ghosts-epoch_store
ghosts-epoch_store g a = record { then = λ n p. p ≡ after_retract a.seat.now.me.0.participant }
