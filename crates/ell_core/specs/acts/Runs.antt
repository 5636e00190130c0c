use Rattle.std.specs.Prelude.{◌≡◌, ℕ, ◌<◌, List, [], ◌∷◌, length, take}
use Rattle.ell_core.specs.declared.event.Event.{Event}
use Rattle.ell_core.specs.declared.event.Shown.{Shown}
use Rattle.ell_core.specs.declared.event.Shown.TheVariants as shown
use Rattle.ell_core.specs.state.Machine.{Machine}
use Rattle.ell_core.specs.acts.Events.{Steps, RefusesEvent}

-- an event shows an answer and leads to a state, or shows a refusal and leaves the state
abbrev pub Shows : Machine → Event → Shown → Machine → Type 0
Shows m e (shown.Step said) after = Steps m e said after
Shows m e (shown.Refused fault) after = RefusesEvent m e fault × (after ≡ m)

-- the events, one after the other, show this list and lead to a state
abbrev pub Run : Machine → List Event → List Shown → Machine → Type 0
Run m [] [] after = after ≡ m
Run m (e ∷ es) (x ∷ xs) after = (between : Machine) × Shows m e x between × Run between es xs after
Run m [] (x ∷ xs) after = ⊥
Run m (e ∷ es) [] after = ⊥

-- a state is passed by a run of a schedule, before its end: some first events of the schedule lead to it, and events
-- are left
pub record Passes (m : Machine) (schedule : List Event) (state : Machine) : Type 0 where
  pub events : ℕ
  pub left : events < length schedule
  pub shown : List Shown
  pub run : Run m (take events schedule) shown state
