use Rattle.std.specs.Prelude.{◌≡◌, ◌==◌, ℕ, if◌then◌else◌, Some}
use Rattle.ell_cards.specs.Epochs.{after_read, after_taking}
use Rattle.ell_cards.specs.SlotWords.{slot_of}
use Rattle.ell_cards.proofs.table.CardTable.take_free.Given as goal

abbrev pub ghosts-epoch_exchange : goal.ghosts-epoch_exchange
ghosts-epoch_exchange g a = record {
  then = λ n p. (c : ℕ) → a.seat.now.me.0.tree.worker.card ≡ Some c
      → p ≡ (if n == a.expected then after_taking c a.seat.now.me.0.participant else after_read (slot_of c) n a.seat.now.me.0.participant);
}
