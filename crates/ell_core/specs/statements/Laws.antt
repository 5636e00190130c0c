use Rattle.std.specs.Prelude.{◌≡◌, ℕ}
use Rattle.ell_core.specs.declared.event.Event.{Event}
use Rattle.ell_core.specs.declared.event.Shown.{Shown}
use Rattle.ell_layout.specs.Words.{Words}
use Rattle.ell_core.specs.state.Machine.{Machine}
use Rattle.ell_core.specs.acts.Runs.{Shows}
use Rattle.ell_core.specs.tree.Tree.{IsLawful}
use Rattle.ell_core.specs.tree.Room.{HasRoom, HoldsKeys}

-- an outcome of an event: what it shows, and the state after it
pub record Outcome : Type 0 where
  pub shown : Shown
  pub after : Machine

-- an event in a state has an outcome
abbrev pub HasOutcome : Machine → Event → Outcome → Type 0
HasOutcome m e o = Shows m e o.shown o.after

-- each state and event has exactly one outcome
pub record OneOutcome (m : Machine) (e : Event) : Type 0 where
  pub outcome : Outcome
  pub has : HasOutcome m e outcome
  pub only : (other : Outcome) → HasOutcome m e other → other ≡ outcome

abbrev pub EachHasOneOutcome : Type 0
EachHasOneOutcome = (m : Machine) (e : Event) → OneOutcome m e

-- as many places as are enough for the nodes that wait on a walk over a lawful tree are enough for its keys
abbrev pub RoomHoldsKeys : Type 0
RoomHoldsKeys = (w : Words) (places : ℕ) → IsLawful w → HasRoom w places → HoldsKeys w places
