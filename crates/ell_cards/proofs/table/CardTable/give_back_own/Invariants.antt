use Rattle.std.specs.Prelude.{◌≡◌}
use Rattle.ell_cards.specs.Epochs.{after_release}
use Rattle.ell_cards.proofs.table.CardTable.give_back_own.Given as goal

abbrev pub ghosts-epoch_store : goal.ghosts-epoch_store
ghosts-epoch_store g a = record { then = λ n p. p ≡ after_release a.seat.now.me.0.participant }
