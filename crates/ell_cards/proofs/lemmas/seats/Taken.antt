use Rattle.std.proofs.Common.{◌≡◌, Option}
use Rattle.ell_runs.specs.declared.call.Call.{Call}
use Rattle.ell_runs.specs.declared.view.Slots.{Slots}
use Rattle.ell_runs.specs.declared.view.View.{View}
use Rattle.ell_cards.specs.Models.{PassModel, Sees, SeesOn, Steps}
use Rattle.ell_runs.specs.Plans.{TablePlan}
use Rattle.ell_cards.specs.Stepping.{Pins, PinsBy, KeepsPass, SeesBy, SeesOnBy, StepsBy, IsTaken}

-- what is taken leaves the pass as it has to be
pub taken_keeps : (plan : TablePlan) (c : Call) (v : View) → KeepsPass plan v (IsTaken plan c v)
taken_keeps plan c v n w t = (t.keys, t.share, (t.named, t.inside))

-- a pass after one step that took this call, before it counts the step
pub sees_by : (old new : PassModel) (v : View) → SeesBy old new → new.view ≡ v → Sees old new v
sees_by old new v by known = λ t. record { table = by.own.table t; view = known t; steps = by.steps t; label = by.own.label t; memory = by.memory t; sight = by.sight t }

-- or one by which it may have seen more of the history
pub sees_on_by : (old new : PassModel) (v : View) → SeesOnBy old new → new.view ≡ v → SeesOn old new v
sees_on_by old new v by known = λ t. record { table = by.own.table t; view = known t; steps = by.steps t; label = by.own.label t; memory = by.memory t; sight = new.sight }

-- and after one that may have begun an operation
pub pins_by : (slots : Option Slots) (c : Call) (old new : PassModel) (v : View) → PinsBy slots c old new → new.view ≡ v → Pins slots old new v
pins_by slots c old new v by known = λ t. record { table = by.own.table t; view = known t; steps = by.steps t; label = by.own.label t; memory = by.memory t; sight = new.sight }

-- a pass after one step that took this call
pub steps_by : (old new : PassModel) (v : View) → StepsBy old new → new.view ≡ v → Steps old new v
steps_by old new v by known = λ t. record { table = by.own.table t; view = known t; steps = by.steps t; label = by.own.label t; memory = by.memory t; sight = by.sight t }
