use Rattle.std.specs.Prelude.{◌≡◌, ◌≤◌, ℕ, Some}
use Rattle.ell_cards.specs.Epochs.{after_retire_epoch, last_epoch}
use Rattle.ell_cards.specs.SlotWords.{card_by, slot_of}
use Rattle.ell_cards.proofs.table.CardTable.retire_epoch.Given as goal

abbrev pub ghosts-load_retire_epoch : goal.ghosts-load_retire_epoch
ghosts-load_retire_epoch g a = record {
  then = λ n p. (p ≡ after_retire_epoch (card_by a.slot a.word) n a.seat.now.me.0.participant) × (n ≤ last_epoch)
      × ((c : ℕ) → a.seat.now.me.0.participant.slot ≡ Some c → slot_of c ≤ a.slots.last);
}
