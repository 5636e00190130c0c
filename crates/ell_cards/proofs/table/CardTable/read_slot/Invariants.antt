use Rattle.std.specs.Prelude.{◌≡◌, ℕ, Some}
use Rattle.ell_runs.specs.declared.view.Slots.{Slots}
use Rattle.ell_cards.specs.Epochs.{slot_word, after_read}
use Rattle.ell_cards.proofs.table.CardTable.read_slot.Given as goal

abbrev pub ghosts-epoch_load : goal.ghosts-epoch_load
ghosts-epoch_load g a = record {
  then = λ n p. (s : Slots) (slot : ℕ) → a.self.now.plan.slots ≡ Some s → a.word ≡ slot_word s slot → p ≡ after_read slot n a.seat.now.me.0.participant;
}
