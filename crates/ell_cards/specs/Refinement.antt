-- How the memory of a table whose cards come back has what its tree has, by slots.
use Rattle.std.specs.Prelude.{◌≡◌, ℕ, ◌≢◌, ◌<◌, ◌≤◌, Bool, true, false, Option, Some, List, slice_index}
use mathlib.Core.Option.{some}
use lib.ListN.{get_elem?}
use Rattle.ell_layout.specs.declared.field.Field.{Field}
use Rattle.ell_layout.specs.Layout.{address}
use Rattle.ell_core.specs.history.Stages.{Stages, is_claimed, waits}
use Rattle.ell_runs.specs.declared.call.Call.{Call}
use Rattle.ell_runs.specs.declared.call.Call.TheVariants as call
use Rattle.ell_cards.specs.declared.view.Known.{Known}
use Rattle.ell_cards.specs.declared.view.Retired.{Retired}
use Rattle.ell_runs.specs.declared.view.Slots.{Slots}
use Rattle.ell_runs.specs.declared.view.View.{View}
use Rattle.ell_runs.specs.Holding.{HoldsWaiting}
use Rattle.ell_cards.specs.LettingGo.{MayLetGo}
use Rattle.ell_runs.specs.Views.{Has}
use Rattle.ell_cards.specs.Epochs.{WholeState}
use Rattle.ell_runs.specs.Sayings.{says, put_says, delete_says}
use Rattle.ell_cards.specs.Shown.{cut_field}
use Rattle.ell_cards.specs.SlotWords.{has_slot_in, slot_of}
use Rattle.ell_runs.specs.States.{TableState}

-- a card lies in its slot, where these lie in the slots of a table
abbrev pub LiesThere : Slots → (ℕ → ℕ) → ℕ → Type 0
LiesThere s lie c = (slot_of c ≤ s.last) × (lie (slot_of c) ≡ c)

-- a card was given out, and has won its flag, or it is of the opening tree
abbrev pub HasWon : Stages → ℕ → Type 0
HasWon stage c = (is_claimed (stage c) ≡ true) × (waits (stage c) ≡ false)

-- a pass has stored this field of its card in hand
abbrev pub HasStored : View → Field → Type 0
HasStored v f = (x : ℕ) × Has v.stores (f, x)

-- a pass has stored each field that is said
abbrev pub HasStoredAll : View → (Field → Bool) → Type 0
HasStoredAll v said = (f : Field) → said f ≡ true → HasStored v f

-- a field of a card that is kept in memory: of a card that has won its flag each one that it says, and of one in hand
-- those that were stored
pub data IsKept (stage : Stages) (views : List Known) (c : ℕ) (f : Field) : Type 0 where
  won : HasWon stage c → says (stage c) f ≡ true → IsKept stage views c f
  stored : (seat : ℕ) (k : Known) → get_elem? views seat ≡ some k → HoldsWaiting k.tree c → HasStored k.tree f
      → IsKept stage views c f

-- What the memory of a table whose cards come back has of its tree: the claim word, and the word from which the tree is
-- flat; and at each slot, of the card that lies there, what is kept, with tags cut. The card of the root lies in slot
-- 0, and so does each card in its slot that has won its flag and is not dead; for a pass that is pinned, each that was
-- not dead when it was pinned; and the card in hand whose slot the pass has taken. Whichever card has won its flag has
-- a slot. The card for which a pass took a slot last has one, and was claimed, and what a pass has stored of its card
-- in hand it stored once it had taken that one's slot.
pub record Refines (s : Slots) (tree : TableState) (t : WholeState) (stage : Stages) (lie : ℕ → ℕ) (dead : ℕ → Bool)
    (was_dead : ℕ → ℕ → Bool) : Type 0 where
  pub claim : slice_index t.words 0 ≡ slice_index tree.words 0
  pub flat : slice_index t.words 1 ≡ slice_index tree.words 1
  pub root : lie 0 ≡ 0
  pub own : (slot : ℕ) → slot ≤ s.last → slot_of (lie slot) ≡ slot
  pub at : (slot : ℕ) (f : Field) → slot ≤ s.last → IsKept stage t.views (lie slot) f
      → slice_index t.words (address slot f) ≡ cut_field f (slice_index tree.words (address (lie slot) f))
  pub alive : (c : ℕ) → HasWon stage c → dead c ≡ false → LiesThere s lie c
  pub lives : (seat q a c : ℕ) (k : Known) → get_elem? t.views seat ≡ some k → k.participant.announcement ≡ Some q
      → k.participant.announced ≡ Some a → HasWon stage c → was_dead q c ≡ false → LiesThere s lie c
  pub fits : (c : ℕ) → HasWon stage c → has_slot_in s.last c ≡ true
  pub hand : (seat c : ℕ) (k : Known) → get_elem? t.views seat ≡ some k → k.participant.slot ≡ Some c
      → HoldsWaiting k.tree c
      → LiesThere s lie c
  pub slotted : (seat c : ℕ) (k : Known) → get_elem? t.views seat ≡ some k → k.participant.slot ≡ Some c
      → has_slot_in s.last c ≡ true
  pub past : (seat c : ℕ) (k : Known) → get_elem? t.views seat ≡ some k → k.participant.slot ≡ Some c
      → c < slice_index t.words 0
  pub stores : (seat c : ℕ) (f : Field) (k : Known) → get_elem? t.views seat ≡ some k → HoldsWaiting k.tree c
      → HasStored k.tree f → k.participant.slot ≡ Some c

-- What a call asks beside what it asks of the tree, by the card for which the pass took a slot last, and what it has
-- retired for that: what is stored goes to that slot, and a card is flagged of which all that it says was stored there.
-- A card is discarded for which the pass has taken no slot; and it lets go a card that has won its flag once it has
-- retired all that the card made dead.
abbrev pub MayInMemory : Slots → Option ℕ → Retired → View → Call → Type 0
MayInMemory s slot r v (call.Fill c f value) = slot ≡ Some c
MayInMemory s slot r v (call.IFlag c p from) = (slot ≡ Some c) × HasStoredAll v put_says
MayInMemory s slot r v (call.DFlag c gp from) = (slot ≡ Some c) × HasStoredAll v delete_says
MayInMemory s slot r v (call.Claim c node) = (d : ℕ) → HoldsWaiting v d → slot ≢ Some d
MayInMemory s slot r v call.Again = MayLetGo s slot r v
MayInMemory s slot r v call.Leave = MayLetGo s slot r v
MayInMemory s slot r v (call.Answer said took) = MayLetGo s slot r v
MayInMemory s slot r v _ = Unit {0}

-- a call that sets no flag
abbrev pub FlagsNone : Call → Type 0
FlagsNone (call.IFlag c p from) = ⊥
FlagsNone (call.DFlag c gp from) = ⊥
FlagsNone _ = Unit {0}

-- a call sets the flag of a card
abbrev pub FlagsCard : Call → ℕ → Type 0
FlagsCard (call.IFlag c p from) d = d ≡ c
FlagsCard (call.DFlag c gp from) d = d ≡ c
FlagsCard _ d = ⊥
