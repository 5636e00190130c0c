use Rattle.std.specs.Prelude.{◌≡◌, ℕ, Some, List}
use Rattle.ell_ops.specs.declared.op.Op.TheVariants.{Delete}
use Rattle.ell_ops.specs.declared.reply.Reply.TheVariants.{Yes}
use Rattle.ell_ops.specs.Contents.{contents_of}
use Rattle.ell_ops.specs.Meaning.{final}
use Rattle.ell_runs.specs.Plans.{TablePlan}
use Rattle.ell_runs.specs.States.{TableState}
use Rattle.ell_runs.specs.Turns.{Turn}
use Rattle.ell_runs.specs.Changing.{run_effects}
use Rattle.ell_runs.specs.Answering.{AnsweredInRun}

-- in a run from a start the pass in a seat deleted a key: at the call's point, one thread that had made all operations
-- by which the tree was changed till then had the key with this value
pub record TookInRun (plan : TablePlan) (s : TableState) (turns : List Turn) (s' : TableState)
    (seat key value : ℕ) : Type 0 where
  pub call : AnsweredInRun plan s turns s' seat (Delete key) Yes
  pub had : final (contents_of plan.start)
      (run_effects plan s call.point.all call.point.state call.point.led) key ≡ Some value
