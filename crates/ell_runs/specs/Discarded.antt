use Rattle.std.specs.Prelude.{◌≡◌, ◌≢◌, ℕ, true, Some, List}
use mathlib.Core.Option.{some}
use lib.ListN.{get_elem?}
use Rattle.ell_layout.specs.declared.field.Field.{Field}
use Rattle.ell_layout.specs.Layout.{address}
use Rattle.ell_core.specs.history.Stages.{Stages, is_claimed, waits}
use Rattle.ell_runs.specs.declared.call.Call.{Call}
use Rattle.ell_runs.specs.declared.view.View.{View}
use Rattle.ell_runs.specs.Calls.{May, word_of}
use Rattle.ell_runs.specs.Machines.{HasMachine}
use Rattle.ell_runs.specs.Plans.{TablePlan}
use Rattle.ell_runs.specs.States.{TableState}
use Rattle.ell_runs.specs.Turns.{Turn, CallIsMade, TableRun}

-- A card was discarded: it was given out, its flag was never won, and no pass has it in hand. None of its nodes ever
-- comes into the tree, and nobody touches its words.
pub record IsDiscarded (stage : Stages) (views : List View) (c : ℕ) : Type 0 where
  pub claimed : is_claimed (stage c) ≡ true
  pub waits : waits (stage c) ≡ true
  pub nobody : (seat : ℕ) (v : View) → get_elem? views seat ≡ some v → v.worker.card ≢ Some c

-- From where a pass makes a call, on through any turns of any passes: no step call that it may make touches a word of a
-- card that was discarded before that call.
abbrev pub CallsTouchNoDiscardedCard : Type 0
CallsTouchNoDiscardedCard = (plan : TablePlan) (s : TableState)
    → (seat : ℕ) (c : Call) (begun : TableState) → CallIsMade plan s seat c begun → (r : HasMachine plan s)
    → (turns : List Turn) (now : TableState) → TableRun plan begun turns now
    → (v : View) → get_elem? now.views seat ≡ some v → (next : Call) → May plan next v
    → (d : ℕ) (f : Field) → word_of next ≡ address d f → ¬ IsDiscarded r.stages s.views d
