use Rattle.std.specs.Prelude.{◌≡◌, ◌≢◌, ◌↔◌, ℕ, ◌+◌, ◌≤◌, List, [], None, true, false, is_some, Some}
use Rattle.std.specs.List.Sorted.{IsStrictlyIncreasing}
use Rattle.atomic_table.specs.Seated.{TableId}
use Rattle.atomic_table.specs.Table.{Me}
use Rattle.ell_layout.specs.Layout.{table_size}
use Rattle.ell_cards.specs.declared.pass.Pass.TheInside.{Inside}
use Rattle.ell_cards.specs.declared.table.CardTable.TheInside.{Inside as TableInside}
use Rattle.ell_word.specs.Node.{greatest_card, greatest_number}
use Rattle.ell_cards.specs.declared.pass.Standing.{Standing}
use Rattle.ell_cards.specs.declared.share.Share.{Share}
use Rattle.ell_cards.specs.declared.view.Known.{Known}
use Rattle.ell_cards.specs.declared.view.Participant.{Participant}
use Rattle.ell_runs.specs.declared.view.Slots.{Slots}
use Rattle.ell_runs.specs.declared.view.View.{View}
use Rattle.ell_runs.specs.Changes.{ledger_keys}
use Rattle.ell_runs.specs.Naming.{IsNamed}
use Rattle.ell_cards.specs.InSlots.{IsPlaced}
use Rattle.ell_runs.specs.Depths.{deepest}
use Rattle.ell_runs.specs.Plans.{TablePlan, flat_from}
use Rattle.ell_cards.specs.Epochs.{slots_size, whole_size}
use Rattle.ell_cards.specs.Shown.{shown}
use Rattle.ell_runs.specs.Starts.{SlotsFit}
use Rattle.ell_cards.specs.SlotWords.{slot_of}

-- the share of a pass as its code keeps it is that of its view, and it counts where some keys are shared
pub record HasShare (share : Share) (v : View) : Type 0 where
  pub units : v.share ≡ share.units
  pub counts : (share.counts ≡ true) ↔ (v.worker.shared ≢ None)

-- all that a pass names lies in slots that have words in a table of so many
pub record HasWords (words : ℕ) (v : View) : Type 0 where
  pub last : ℕ
  pub low : last ≤ greatest_card
  pub few : table_size last ≤ words
  pub placed : IsPlaced last v

-- a card has a slot that has words there
pub record HasSlotThere (words c : ℕ) : Type 0 where
  pub last : ℕ
  pub low : last ≤ greatest_card
  pub few : table_size last ≤ words
  pub inside : slot_of c ≤ last

-- the keys of a pass as its code keeps them are those of its ledger, ascending; so is its share; and what it names is
-- in its table
pub record PassFits (keys : List ℕ) (kept : Share) (words : ℕ) (v : View) : Type 0 where
  pub owned : keys ≡ ledger_keys v.worker.ledger
  pub ascending : IsStrictlyIncreasing keys
  pub share : HasShare kept v
  pub named : (last : ℕ) → words ≡ table_size last → IsNamed last v
  pub most : IsNamed greatest_number v
  pub inside : HasWords words v

-- the announcement of a pass as its code keeps it is the one that it knows, and it has one in a table whose cards come
-- back, and no other one; it announces there what its code says, and nothing without an announcement; its safe epoch is
-- the one that its code keeps, and 0 where cards do not come back; the slot that it has taken is one of the table; and
-- it has set free the slot of each card whose flag it lost
pub record StandingFits (standing : Standing) (words : ℕ) (p : Participant) : Type 0 where
  pub announcement : p.announcement ≡ standing.announcement
  pub other : p.other ≡ None
  pub announces : standing.announces ≡ is_some p.announced
  pub quiet : standing.announcement ≡ None → standing.announces ≡ false
  pub safe_epoch : p.safe_epoch ≡ standing.safe_epoch
  pub none : (last : ℕ) → words ≡ table_size last → standing.announcement ≡ None
  pub unsafe : (last : ℕ) → words ≡ table_size last → p.safe_epoch ≡ 0
  pub some : (s : Slots) → words ≡ slots_size s → standing.announcement ≢ None
  pub slot : (c : ℕ) → p.slot ≡ Some c → HasSlotThere words c
  pub lost : p.lost ≡ None

-- a pass fits by what is shown of what its seat knows, its seat holds no slot of memory, and its announcement fits
pub record IsPass {A B C : Type 0} (p : Inside A B C) : Type 0 where
  pub fits : PassFits p.keys.items p.share p.seat.table_id.words (shown p.seat.me.0.tree)
  pub bare : p.seat.me.1 ≡ []
  pub stands : StandingFits p.standing p.seat.table_id.words p.seat.me.0.participant

-- what the code of a table keeps is of its plan: it has the words that the plan asks for, and no slots of memory; its
-- slots and announcements fit the plan; and its last card has a number, and no internal node is much deeper than there
-- are numbers, or, where cards do not come back, than there are cards with words
pub record FitsPlan {A B C : Type 0} (plan : TablePlan) (id : TableId) (t : TableInside A B C) : Type 0 where
  pub words : id.words ≡ whole_size plan
  pub bare : id.slots ≡ 0
  pub last_card : t.last_card ≡ plan.last_card
  pub shared : t.shared ≡ plan.shared
  pub first_block : t.first_block ≡ flat_from plan
  pub slots : t.slots ≡ plan.slots
  pub fit : SlotsFit plan plan.slots
  pub limit : plan.last_card ≤ greatest_number
  pub depth : deepest plan ≤ greatest_number + 64
  pub plain_depth : plan.slots ≡ None → deepest plan ≤ greatest_card + 64

-- a table as it is made, and its first seat
pub record IsNewTable (size : ℕ) (table seat : TableId) (me : Me (Unit {0}) Known) (k : Known) : Type 0 where
  pub words : table.words ≡ size
  pub slots : table.slots ≡ 0
  pub own : seat ≡ table
  pub knows : me ≡ (k, [])
