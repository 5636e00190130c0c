-- What a pass is to have retired before it lets its card in hand go.
use Rattle.std.specs.Prelude.{◌≡◌, ◌≢◌, ℕ, true, Option, Some}
use Rattle.ell_ops.specs.declared.op.Op.{Op}
use Rattle.ell_ops.specs.Meaning.{key_of}
use Rattle.ell_word.specs.Node.{IsNode, card}
use Rattle.ell_core.specs.declared.fact.Fact.TheVariants.{IOver, DOver, Backed}
use Rattle.ell_layout.specs.declared.field.Field.TheVariants as field
use Rattle.ell_cards.specs.declared.view.Retired.{Retired}
use Rattle.ell_runs.specs.declared.view.Slots.{Slots}
use Rattle.ell_runs.specs.declared.view.Told.TheVariants.{Info}
use Rattle.ell_runs.specs.declared.view.View.{View}
use Rattle.ell_runs.specs.Views.{IsTold, Knows, Does}
use Rattle.ell_cards.specs.SlotWords.{has_slot_in}
use Rattle.ell_runs.specs.Holding.{HasFlagged, HoldsWaiting}

-- A pass was told where the card of its insert or swap went, and the keys of the card's leaves, which are two above an
-- internal node. If they are one, it has retired the leaf that the card took out, and what of the card never came; if
-- they are two, the leaf of the card that is not used.
pub record PutIsRetired (s : Slots) (v : View) (r : Retired) (c : ℕ) : Type 0 where
  pub op : Op
  pub below : ℕ
  pub left : ℕ
  pub right : ℕ
  pub busy : Does v op
  pub goes : IsTold v (Info c field.L below)
  pub left_key : IsTold v (Info c field.LeftLeafKey left)
  pub right_key : IsTold v (Info c field.RightLeafKey right)
  pub leaf : left ≡ right → IsNode below → has_slot_in s.last (card below) ≡ true → r.leaf ≡ true
  pub replaced : left ≡ right → has_slot_in s.last c ≡ true → (r.own.internal ≡ true) × (r.own.left ≡ true)
  pub unused_left : left ≢ right → left ≢ key_of op → has_slot_in s.last c ≡ true → r.own.left ≡ true
  pub unused_right : left ≢ right → right ≢ key_of op → has_slot_in s.last c ≡ true → r.own.right ≡ true

-- it has retired all nodes of its card
pub record OwnAreRetired (s : Slots) (r : Retired) (c : ℕ) : Type 0 where
  pub internal : has_slot_in s.last c ≡ true → r.own.internal ≡ true
  pub left : has_slot_in s.last c ≡ true → r.own.left ≡ true
  pub right : has_slot_in s.last c ≡ true → r.own.right ≡ true

-- a pass was told which parent and which leaf the card of its delete took out, and has retired both
pub record CutIsRetired (s : Slots) (v : View) (r : Retired) (c : ℕ) : Type 0 where
  pub parent : ℕ
  pub leaf : ℕ
  pub above : IsTold v (Info c field.P parent)
  pub below : IsTold v (Info c field.L leaf)
  pub parent_retired : has_slot_in s.last (card parent) ≡ true → r.parent ≡ true
  pub leaf_retired : IsNode leaf → has_slot_in s.last (card leaf) ≡ true → r.leaf ≡ true

-- a pass knows that its flagged card is over, and has retired all that the card made dead
pub data IsRetired (s : Slots) (v : View) (r : Retired) (c : ℕ) : Type 0 where
  put : Knows v (IOver c) → PutIsRetired s v r c → IsRetired s v r c
  cut : Knows v (DOver c) → CutIsRetired s v r c → OwnAreRetired s r c → IsRetired s v r c
  backed : Knows v (Backed c) → OwnAreRetired s r c → IsRetired s v r c

-- A pass that has taken a slot last for this card, if for any, and has retired this, may let its card in hand go: it
-- has taken no slot for one that waits for its flag, and one that has won that is retired.
pub record MayLetGo (s : Slots) (slot : Option ℕ) (r : Retired) (v : View) : Type 0 where
  pub waiting : (c : ℕ) → HoldsWaiting v c → slot ≢ Some c
  pub taken : (c : ℕ) → HasFlagged v c → slot ≡ Some c
  pub retired : (c : ℕ) → HasFlagged v c → IsRetired s v r c
