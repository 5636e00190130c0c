use Rattle.std.specs.Prelude.{◌≡◌, ℕ, List, ◌∷◌, ◌++◌}
use Rattle.ell_ops.specs.declared.op.Op.{Op}
use Rattle.ell_ops.specs.declared.reply.Reply.{Reply}
use Rattle.ell_runs.specs.declared.call.Call.TheVariants as call
use Rattle.ell_runs.specs.Plans.{TablePlan}
use Rattle.ell_runs.specs.States.{TableState}
use Rattle.ell_runs.specs.Turns.{Turn, Makes, TableRun}
use Rattle.ell_runs.specs.Changing.{IsCalled, RepliesAsOneThread}

-- in a run from a start the pass in a seat made a call that it answered so: it began the operation here, answered it
-- there, and the call had its point within that span
pub record AnsweredInRun (plan : TablePlan) (s : TableState) (turns : List Turn) (s' : TableState) (seat : ℕ) (op : Op)
    (said : Reply) : Type 0 where
  pub earlier : List Turn
  pub during : List Turn
  pub later : List Turn
  pub from : TableState
  pub begun : TableState
  pub at : TableState
  pub led : TableRun plan s earlier from
  pub called : IsCalled plan from seat op begun during at said
  pub is : turns ≡ earlier ++ Makes seat (call.Begin op) ∷ (during ++ Makes seat (call.Answer said called.took) ∷ later)
  pub since : TableRun plan called.ended later s'
  pub point : RepliesAsOneThread plan s seat op begun during at said
