use Rattle.std.specs.Prelude.{ℕ, ◌+◌, nat_lt, if◌then◌else◌, Bool, Option, List, length}
use Rattle.ell_runs.specs.declared.view.Slots.{Slots}
use Rattle.ell_runs.specs.declared.call.NewNode.{NewNode}

-- what a table opens with: keys that may have owners, start pairs, the last card, if all other keys are shared, if the
-- tree is flat; and, if its cards come back, how many cards have words and how many announcements there are
pub record TablePlan : Type 0 where
  pub keys : List ℕ
  pub start : List (ℕ × ℕ)
  pub last_card : ℕ
  pub shared : Bool
  pub flat : Bool
  pub slots : Option Slots

-- the first card that is not of the opening tree, if the tree of a table is flat, else 0
abbrev pub flat_from : TablePlan → ℕ
flat_from plan = if plan.flat then length plan.start + 1 else 0

-- what the node of an insert's or a swap's card is to be, of this key
abbrev pub new_node : TablePlan → ℕ → NewNode
new_node plan key = record { key = key; flat = nat_lt 0 (flat_from plan) }
