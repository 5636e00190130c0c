use Rattle.std.specs.Prelude.{◌≡◌, ℕ, ◌<◌, List}
use mathlib.Core.Option.{some}
use lib.ListN.{get_elem?}
use Rattle.ell_ops.specs.declared.op.Op.{Op}
use Rattle.ell_runs.specs.declared.call.Call.TheVariants as call
use Rattle.ell_runs.specs.Plans.{TablePlan}
use Rattle.ell_runs.specs.States.{TableState}
use Rattle.ell_runs.specs.Turns.{Turn, Makes, TableRun}
use Rattle.ell_runs.specs.Starts.{Starts}
use Rattle.ell_runs.specs.Linearizing.{ChangesAt, KeepsOnBetween}

-- a call that was given up: in one turn of a run a pass begins the operation, in a later one it gives it up, and in
-- between it goes on with it
pub record IsGivenUp (turns : List Turn) (seat begin end : ℕ) (op : Op) : Type 0 where
  pub begins : get_elem? turns begin ≡ some (Makes seat (call.Begin op))
  pub later : begin < end
  pub on : KeepsOnBetween seat turns begin end
  pub leaves : get_elem? turns end ≡ some (Makes seat call.Leave)

-- no turn of a run changes the tree by the call that began in this one
abbrev pub ChangesNothing : TablePlan → TableState → List Turn → ℕ → Type 0
ChangesNothing plan s turns begin = (change : ℕ) (op : Op) → ¬ ChangesAt plan s turns begin change op

-- so it is of each call that was given up, before that and after it, in each run from a start
abbrev pub GivenUpCallsChangeNothing : Type 0
GivenUpCallsChangeNothing = (plan : TablePlan) (s : TableState) → Starts plan s → (turns : List Turn) (s' : TableState)
    → TableRun plan s turns s'
    → (seat begin end : ℕ) (op : Op) → IsGivenUp turns seat begin end op → ChangesNothing plan s turns begin

-- the pass in a seat gave a call up in a run, and the call changes nothing
pub record IsGivenUpInRun (plan : TablePlan) (s : TableState) (turns : List Turn) (seat : ℕ) (op : Op) : Type 0 where
  pub begin : ℕ
  pub end : ℕ
  pub given_up : IsGivenUp turns seat begin end op
  pub nothing : ChangesNothing plan s turns begin
