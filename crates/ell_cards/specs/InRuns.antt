use Rattle.std.specs.Prelude.{◌≡◌, ℕ, Option, Some, List}
use mathlib.Core.Option.{some}
use lib.ListN.{get_elem?}
use Rattle.ell_layout.specs.Words.{Words}
use Rattle.ell_runs.specs.declared.view.View.{View}
use Rattle.ell_runs.specs.Plans.{TablePlan, flat_from}
use Rattle.ell_cards.specs.Apart.{IsApart}
use Rattle.ell_cards.specs.Shown.{shown}
use Rattle.ell_runs.specs.States.{TableState}
use Rattle.ell_runs.specs.Turns.{Turn, TableRun}
use Rattle.ell_runs.specs.Starts.{Starts, IsReached}
use Rattle.ell_runs.specs.Looking.{FoundInRun, HasBetween, HasFound, HasFoundBetween, HasThere}
use Rattle.ell_ops.specs.declared.op.Op.{Op}
use Rattle.ell_ops.specs.declared.reply.Reply.{Reply}
use Rattle.ell_runs.specs.Answering.{AnsweredInRun}
use Rattle.ell_ops.specs.declared.op.Op.TheVariants.{Delete}
use Rattle.ell_ops.specs.declared.reply.Reply.TheVariants.{Yes}
use Rattle.ell_runs.specs.Taking.{TookInRun}
use Rattle.ell_runs.specs.GivingUp.{IsGivenUpInRun}

-- turns have led a table with this plan to a state in which a pass that tells nodes apart knows what is shown so
pub record IsKnownInRun (plan : TablePlan) (v : View) : Type 0 where
  pub state : TableState
  pub reached : IsReached plan state
  pub seat : ℕ
  pub knows : View
  pub there : get_elem? state.views seat ≡ some knows
  pub shows : shown knows ≡ v
  pub apart : IsApart plan knows

-- in every run of a table with this plan, from its start to a state in which a pass that tells nodes apart knows what
-- is shown so, the pass has found this by its look
abbrev pub IsFoundInRuns : TablePlan → View → (Words → Type 0) → Type 0
IsFoundInRuns plan v what = (s : TableState) → Starts plan s → (turns : List Turn) (s' : TableState)
    → TableRun plan s turns s' → (seat : ℕ) (w : View) → shown w ≡ v → IsApart plan w → get_elem? s'.views seat ≡ some w
    → FoundInRun plan s turns s' seat what

-- what any pass has found of any key by its last look, whoever owns it, whatever turns of whatever passes came
-- meanwhile
abbrev pub LooksAreOfOneState : Type 0
LooksAreOfOneState = (plan : TablePlan) (v : View) (key : ℕ) (there : Option ℕ) → HasFound v key there
    → IsFoundInRuns plan v (HasThere key there)

-- what any pass has found of any stretch of keys by its last look
abbrev pub StretchesAreOfOneState : Type 0
StretchesAreOfOneState = (plan : TablePlan) (v : View) (low high : ℕ) (there : Option (ℕ × ℕ))
    → HasFoundBetween (flat_from plan) v low high there → IsFoundInRuns plan v (HasBetween low high there)

-- in every run from a start to a state in which a pass knows what is shown so, it answered an operation so
abbrev pub IsAnsweredInRuns : TablePlan → View → Op → Reply → Type 0
IsAnsweredInRuns plan v op said =
    (s : TableState) → Starts plan s → (turns : List Turn) (s' : TableState) → TableRun plan s turns s'
    → (seat : ℕ) (w : View) → shown w ≡ v → get_elem? s'.views seat ≡ some w
    → AnsweredInRun plan s turns s' seat op said

-- what a pass answered last had its point, whoever may change the key, whatever turns of whatever passes came meanwhile
abbrev pub AnswersHaveTheirPoints : Type 0
AnswersHaveTheirPoints = (plan : TablePlan) (v : View) (op : Op) (said : Reply) (card took : Option ℕ)
    → v.answered ≡ Some (record { op = op; said = said; card = card; took = took }) → IsAnsweredInRuns plan v op said

-- in every such run it deleted this key, which had this value
abbrev pub IsTakenInRuns : TablePlan → View → ℕ → ℕ → Type 0
IsTakenInRuns plan v key value =
    (s : TableState) → Starts plan s → (turns : List Turn) (s' : TableState) → TableRun plan s turns s'
    → (seat : ℕ) (w : View) → shown w ≡ v → get_elem? s'.views seat ≡ some w
    → TookInRun plan s turns s' seat key value

-- a delete that was answered yes took the value that its pass says it took
abbrev pub DeletesTakeWhatTheyTell : Type 0
DeletesTakeWhatTheyTell = (plan : TablePlan) (v : View) (key : ℕ) (card : Option ℕ) (value : ℕ)
    → v.answered ≡ Some (record { op = Delete key; said = Yes; card = card; took = Some value })
    → IsTakenInRuns plan v key value

-- in every such run it gave this operation up
abbrev pub IsGivenUpInRuns : TablePlan → View → Op → Type 0
IsGivenUpInRuns plan v op =
    (s : TableState) → Starts plan s → (turns : List Turn) (s' : TableState) → TableRun plan s turns s'
    → (seat : ℕ) (w : View) → shown w ≡ v → get_elem? s'.views seat ≡ some w
    → IsGivenUpInRun plan s turns seat op

-- what a pass gave up last changes nothing, whoever may change the key, whatever turns of whatever passes came
-- meanwhile, or come later
abbrev pub GivenUpLastChangesNothing : Type 0
GivenUpLastChangesNothing =
    (plan : TablePlan) (v : View) (op : Op) → v.given_up ≡ Some op → IsGivenUpInRuns plan v op
