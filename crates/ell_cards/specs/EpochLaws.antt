use Rattle.std.specs.Prelude.{◌≡◌, ◌≢◌, ℕ, ◌⊎◌, ◌+◌, ◌*◌, ◌%◌, ◌<◌, ◌≤◌, ◌==◌, true, Some, None, List, length, slice_index, Contains}
use Rattle.std.specs.List.{IsDistinct, AllByRecursion}
use mathlib.Core.Option.{some}
use lib.ListN.{get_elem?}
use Rattle.ell_cards.specs.declared.view.Known.{Known}
use Rattle.ell_runs.specs.declared.view.Slots.{Slots}
use Rattle.ell_runs.specs.declared.view.Told.TheVariants.{Info}
use Rattle.ell_word.specs.Node.{card}
use Rattle.ell_layout.specs.declared.field.Field.{Field}
use Rattle.ell_layout.specs.declared.field.Field.TheVariants as field
use Rattle.ell_layout.specs.Layout.{address}
use Rattle.ell_core.specs.tree.Tree.{ListsTreePairs}
use Rattle.ell_runs.specs.declared.call.Call.{Call}
use Rattle.ell_runs.specs.Calls.{May, word_of}
use Rattle.ell_cards.specs.Leaks.{NothingLeaks}
use Rattle.ell_runs.specs.Machines.{HasMachine}
use Rattle.ell_runs.specs.Plans.{TablePlan}
use Rattle.ell_runs.specs.Views.{IsTold}
use Rattle.ell_cards.specs.Epochs.{WholeState, epoch_word, slot_word}
use Rattle.ell_cards.specs.SlotWords.{card_by, is_retired, slot_of, retire_epoch_in}
use Rattle.ell_cards.specs.CardNodes.{has_node}
use Rattle.ell_cards.specs.Refinement.{MayInMemory}
use Rattle.ell_runs.specs.TurnEffects.{own_words}
use Rattle.ell_cards.specs.Whole.{IsWhole}

-- a pass in a seat of a table is pinned: it has an announcement, and announces an epoch there
pub record IsPinned (t : WholeState) (seat : ℕ) (k : Known) : Type 0 where
  pub there : get_elem? t.views seat ≡ some k
  pub announcement : ℕ
  pub has : k.participant.announcement ≡ Some announcement
  pub epoch : ℕ
  pub announces : k.participant.announced ≡ Some epoch

-- It was pinned no sooner than any pass's safe epoch says, when the epoch was the one that it announces at least, and
-- no more than it is now.
pub record BeganSafely (s : Slots) (t : WholeState) (k : Known) (epoch : ℕ) : Type 0 where
  pub safe_epoch : (i : ℕ) (other : Known) → get_elem? t.views i ≡ some other
      → other.participant.safe_epoch ≤ k.participant.began
  pub announced : epoch ≤ k.participant.began
  pub past : k.participant.began ≤ slice_index t.words (epoch_word s)

-- so it is wherever the steps of passes have led a table whose cards come back
abbrev pub SafeEpochsAreSafe : Type 0
SafeEpochsAreSafe = (plan : TablePlan) (s : Slots) (t : WholeState) → plan.slots ≡ Some s → IsWhole plan t
    → (seat : ℕ) (k : Known) (pinned : IsPinned t seat k) → BeganSafely s t k pinned.epoch

-- the word of a slot sets it free with a retire epoch below the safe epoch of some pass
pub record IsSafelyFree (s : Slots) (t : WholeState) (slot : ℕ) : Type 0 where
  pub there : slot ≤ s.last
  pub free : slice_index t.words (slot_word s slot) % 8 ≡ 0
  pub pass : ℕ
  pub knows : Known
  pub sits : get_elem? t.views pass ≡ some knows
  pub safe_epoch : retire_epoch_in (slice_index t.words (slot_word s slot)) < knows.participant.safe_epoch

-- So it is wherever the steps of passes have led a table whose cards come back: no pass may touch a word of any card
-- that has this slot, whatever it knows.
abbrev pub FreeSlotsAreUntouched : Type 0
FreeSlotsAreUntouched = (plan : TablePlan) (s : Slots) (t : WholeState) → plan.slots ≡ Some s
    → IsWhole plan t → (slot : ℕ) → IsSafelyFree s t slot
    → (seat : ℕ) (k : Known) → get_elem? t.views seat ≡ some k → (c : Call) → May plan c k.tree
    → MayInMemory s k.participant.slot k.participant.retired k.tree c
    → (d : ℕ) → slot_of d ≡ slot → (f : Field) → word_of c ≢ address d f

-- If by the word of its slot, which is in use, the card of a node lies there, the node is retired by the word.
abbrev pub IsRetiredInSlot : Slots → WholeState → ℕ → Type 0
IsRetiredInSlot s t x =
    slot_of (card x) ≤ s.last → slice_index t.words (slot_word s (slot_of (card x))) % 8 ≢ 0
    → card_by (slot_of (card x)) (slice_index t.words (slot_word s (slot_of (card x)))) ≡ card x
    → is_retired (slice_index t.words (slot_word s (slot_of (card x)))) (x % 4) ≡ true

-- so it is of what a pass has retired for a card: of the parent and the leaf of the card, as the pass was told of them,
-- and of nodes of the card itself
pub record IsRetiredInSlots (s : Slots) (t : WholeState) (k : Known) (c : ℕ) : Type 0 where
  pub parent : (x : ℕ) → IsTold k.tree (Info c field.P x) → k.participant.retired.parent ≡ true → IsRetiredInSlot s t x
  pub leaf : (x : ℕ) → IsTold k.tree (Info c field.L x) → k.participant.retired.leaf ≡ true → IsRetiredInSlot s t x
  pub own : (i : ℕ) → has_node k.participant.retired.own i ≡ true → IsRetiredInSlot s t (4 * c + i)

-- and so it is of each pass for its card in hand, whose slot it has taken, wherever steps have led a table whose cards
-- come back
abbrev pub RetiredNodesStayRetired : Type 0
RetiredNodesStayRetired = (plan : TablePlan) (s : Slots) (t : WholeState) → plan.slots ≡ Some s → IsWhole plan t
    → (seat c : ℕ) (k : Known) → get_elem? t.views seat ≡ some k → k.participant.slot ≡ Some c
    → k.tree.worker.card ≡ Some c
    → IsRetiredInSlots s t k c

-- No slot stays in use for nothing: so it is of the cards that lie in slots, as the words of those say, and of what has
-- become of each card in the tree.
pub record LeaksNoSlot (plan : TablePlan) (s : Slots) (t : WholeState) (h : IsWhole plan t) : Type 0 where
  pub machine : HasMachine plan h.tree
  pub lie : ℕ → ℕ
  pub lies : (slot : ℕ) → slot ≤ s.last → slice_index t.words (slot_word s slot) % 8 ≢ 0
      → lie slot ≡ card_by slot (slice_index t.words (slot_word s slot))
  pub leaks : NothingLeaks s t h.tree.views machine.words machine.stages lie

-- wherever steps have led a table whose cards come back
abbrev pub NoSlotLeaks : Type 0
NoSlotLeaks = (plan : TablePlan) (s : Slots) (t : WholeState) → plan.slots ≡ Some s → (h : IsWhole plan t)
    → LeaksNoSlot plan s t h

-- a slot is in use
abbrev pub IsInUse : Slots → WholeState → ℕ → Type 0
IsInUse s t slot = (slot ≤ s.last) × (slice_index t.words (slot_word s slot) % 8 ≢ 0)

-- a pass is busy: it has a card in hand, or has lost a flag and not set the slot of that card free yet
abbrev pub IsBusy : Known → Type 0
IsBusy k = (k.tree.worker.card ≢ None) ⊎ (k.participant.lost ≢ None)

-- Different slots that are in use are at most as many as the start keys, two for each key of the tree and three more,
-- and three for each pass that is busy.
abbrev pub SlotsInUseAreFew : Type 0
SlotsInUseAreFew = (plan : TablePlan) (s : Slots) (t : WholeState) → plan.slots ≡ Some s → plan.flat ≡ true
    → (h : IsWhole plan t) → (pairs : List (ℕ × ℕ)) → ListsTreePairs (own_words h.tree) pairs
    → (busy : List ℕ)
    → ((seat : ℕ) (k : Known) → get_elem? t.views seat ≡ some k → IsBusy k → Contains busy seat)
    → (slots : List ℕ) → IsDistinct (λ a b. a == b) slots → AllByRecursion (IsInUse s t) slots
    → length slots ≤ length plan.start + (2 * length pairs + 3) + 3 * length busy
