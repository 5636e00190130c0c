-- That no slot stays in use for nothing.
use Rattle.std.specs.Prelude.{◌≡◌, ◌≢◌, ℕ, ◌⊎◌, ◌+◌, ◌*◌, ◌%◌, ◌<◌, ◌≤◌, true, false, Some, List, slice_index}
use mathlib.Core.Option.{some}
use lib.ListN.{get_elem?}
use Rattle.ell_word.specs.Node.{card}
use Rattle.ell_layout.specs.Words.{Words}
use Rattle.ell_core.specs.history.Stages.{Stages}
use Rattle.ell_grace.specs.Dead.{NeverComes}
use Rattle.ell_grace.specs.Gone.{TakesOut}
use Rattle.ell_cards.specs.declared.view.Known.{Known}
use Rattle.ell_runs.specs.declared.view.Slots.{Slots}
use Rattle.ell_runs.specs.declared.view.View.{View}
use Rattle.ell_cards.specs.Epochs.{WholeState, slot_word}
use Rattle.ell_cards.specs.SlotWords.{is_retired}
use Rattle.ell_runs.specs.Holding.{HoldsWaiting, HasFlagged}
use Rattle.ell_cards.specs.Refinement.{HasWon}

-- A pass holds the slot of a card: it has taken that for the card, which it has in hand and has not flagged yet; or
-- it has just lost the card's flag.
pub data Holds (k : Known) (c : ℕ) : Type 0 where
  waiting : k.participant.slot ≡ Some c → HoldsWaiting k.tree c → Holds k c
  lost : k.participant.lost ≡ Some c → Holds k c

pub record IsHeld (views : List Known) (c : ℕ) : Type 0 where
  pub seat : ℕ
  pub knows : Known
  pub there : get_elem? views seat ≡ some knows
  pub holds : Holds knows c

-- a card makes a node dead: it has taken the node out of the tree; or the node is its own, and never comes
abbrev pub Kills : Words → Stages → ℕ → ℕ → Type 0
Kills w stage c x = TakesOut w stage c x ⊎ ((card x ≡ c) × NeverComes w stage x)

-- some pass has a card in hand that has won its flag
pub record IsInFlaggedHand (views : List View) (c : ℕ) : Type 0 where
  pub seat : ℕ
  pub view : View
  pub there : get_elem? views seat ≡ some view
  pub has : HasFlagged view c

-- The card of each slot in use has won its flag, or a pass holds the slot for it; and where a node is retired by the
-- slot's word, it has won its flag. Of each of its nodes that a card has made dead, and which is not retired by the
-- word, some pass has that card in hand still, and so is to retire it.
pub record NothingLeaks (s : Slots) (t : WholeState) (trees : List View) (w : Words) (stage : Stages) (lie : ℕ → ℕ)
    : Type 0 where
  pub used : (slot : ℕ) → slot ≤ s.last → slice_index t.words (slot_word s slot) % 8 ≢ 0
      → HasWon stage (lie slot) ⊎ IsHeld t.views (lie slot)
  pub bits : (slot i : ℕ) → slot ≤ s.last → slice_index t.words (slot_word s slot) % 8 ≢ 0
      → is_retired (slice_index t.words (slot_word s slot)) i ≡ true → HasWon stage (lie slot)
  pub owed : (slot i c : ℕ) → slot ≤ s.last → slice_index t.words (slot_word s slot) % 8 ≢ 0 → i < 3
      → is_retired (slice_index t.words (slot_word s slot)) i ≡ false → Kills w stage c (4 * lie slot + i)
      → IsInFlaggedHand trees c
