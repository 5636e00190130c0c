use Rattle.std.specs.Prelude.{◌≡◌, ◌≤◌, ◌+◌, ℕ}
use Rattle.ell_cards.specs.Epochs.{after_announce}
use Rattle.ell_cards.proofs.table.CardTable.announce.Given as goal

abbrev pub ghosts-epoch_store : goal.ghosts-epoch_store
ghosts-epoch_store g a = record {
  then = λ n p. (epoch : ℕ) × (epoch + 2 ≡ n) × (global : ℕ) × (epoch ≤ global) × (p ≡ after_announce epoch global a.seat.now.me.0.participant);
}
