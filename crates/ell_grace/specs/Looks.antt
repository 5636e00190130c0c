use Rattle.std.specs.Prelude.{ℕ, List}
use Rattle.ell_core.specs.declared.event.Event.{Event}
use Rattle.ell_core.specs.declared.event.Shown.{Shown}
use Rattle.ell_core.specs.state.Machine.{Machine}
use Rattle.ell_core.specs.statements.Looks.{Looks}
use Rattle.ell_grace.specs.Gone.{IsGone, HasOuts}

-- a look from node 0, for any key and over any events, comes to no node that was gone when it began
abbrev pub LooksMeetNothingGone : Type 0
LooksMeetNothingGone = (key : ℕ) (m : Machine) (has : HasOuts m) (events : List Event) (answers : List Shown) (m' : Machine) (y : ℕ)
    → Looks key m events answers m' 0 y → ¬ IsGone m.words has.stages y
