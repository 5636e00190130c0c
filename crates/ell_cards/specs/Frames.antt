use Rattle.std.specs.Prelude.{◌≡◌, ◌≤◌, ℕ, Some, []}
use Rattle.ell_cards.specs.declared.view.Participant.{Participant}
use Rattle.ell_runs.specs.declared.view.Slots.{Slots}
use Rattle.ell_cards.specs.Memories.{SeatModel}
use Rattle.ell_cards.specs.Models.{TableModel}
use Rattle.ell_cards.specs.Epochs.{StandsAs}
use Rattle.ell_cards.specs.SlotWords.{slot_of}

-- a seat steps on the words of a table, and holds no slot of the memory
pub record IsSeatOf (table : TableModel) (seat : SeatModel) : Type 0 where
  pub own : seat.table_id ≡ table.id
  pub empty : seat.me.1 ≡ []

-- and the table has these announcements and slots
pub record IsSeatWithSlots (table : TableModel) (s : Slots) (seat : SeatModel) : Type 0 where
  pub own : seat.table_id ≡ table.id
  pub empty : seat.me.1 ≡ []
  pub slots : table.plan.slots ≡ Some s

-- and this card lies in one of these slots
pub record IsSeatWithSlotOf (table : TableModel) (s : Slots) (c : ℕ) (seat : SeatModel) : Type 0 where
  pub own : seat.table_id ≡ table.id
  pub empty : seat.me.1 ≡ []
  pub slots : table.plan.slots ≡ Some s
  pub inside : slot_of c ≤ s.last

-- a seat knows of the tree and of its history what it knew, and is a seat of the same table, which holds no slot
pub record LeavesTree (old new : SeatModel) : Type 0 where
  pub tree : new.me.0.tree ≡ old.me.0.tree
  pub sight : new.me.0.sight ≡ old.me.0.sight
  pub table : new.table_id ≡ old.table_id
  pub empty : new.me.1 ≡ []

-- what a pass announces, the slot that it has taken, and the card that it has discarded are as they were
pub record StandsStill (old new : Participant) : Type 0 where
  pub stands : StandsAs old new
  pub slot : new.slot ≡ old.slot
  pub lost : new.lost ≡ old.lost

-- and so are its safe epoch and what it saw when it looked at all announcements last
pub record KeepsSafeEpoch (old new : Participant) : Type 0 where
  pub safe_epoch : new.safe_epoch ≡ old.safe_epoch
  pub surveyed : new.surveyed ≡ old.surveyed
