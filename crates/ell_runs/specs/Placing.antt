use Rattle.std.specs.Prelude.{◌≡◌, ℕ, ◌<◌, ◌≤◌, Option, List, length, take}
use Rattle.ell_ops.specs.Contents.{Contents, contents_of}
use Rattle.ell_ops.specs.Meaning.{final}
use Rattle.ell_layout.specs.Words.{Words}
use Rattle.ell_runs.specs.Plans.{TablePlan}
use Rattle.ell_runs.specs.States.{TableState}
use Rattle.ell_runs.specs.Turns.{Turn, TableRun}
use Rattle.ell_runs.specs.Starts.{Starts}
use Rattle.ell_runs.specs.Looking.{FoundInRun, HasThere}
use Rattle.ell_runs.specs.Linearizing.{IsAnswered, Item, ops_of, StandsIn, IsLinearized}

-- after so many turns of a run the pass in a seat has found this, by a look or by a scan: it was so in one state since
-- the look or the scan began
pub record IsLookFor (plan : TablePlan) (s : TableState) (turns : List Turn) (ended : ℕ) (what : Words → Type 0)
    : Type 0 where
  pub inside : ended ≤ length turns
  pub seat : ℕ
  pub state : TableState
  pub found : FoundInRun plan s (take ended turns) state seat what

-- it has found this of a key
abbrev pub IsLook : TablePlan → TableState → List Turn → ℕ → ℕ → Option ℕ → Type 0
IsLook plan s turns ended key there = IsLookFor plan s turns ended (HasThere key there)

-- the turn in which it began
abbrev pub began : (plan : TablePlan) (s : TableState) (turns : List Turn) (ended key : ℕ) (there : Option ℕ)
    → IsLook plan s turns ended key there → ℕ
began plan s turns ended key there look = look.found.began.first

-- a look that began in one turn and had ended before another has a place in a sequence of calls: behind the first so
-- many of them it finds what one thread finds there that has made these. What ended before the look began is among
-- these, and what began after it had ended is not
pub record HasPlace (start : Contents) (turns : List Turn) (order : List Item) (began ended key : ℕ)
    (there : Option ℕ) : Type 0 where
  pub place : ℕ
  pub says : there ≡ final start (ops_of (take place order)) key
  pub after : (i : ℕ) (x : Item) → StandsIn order i x → (end : ℕ) → IsAnswered turns x.begin end x.op x.reply
      → end < began → i < place
  pub before : (i : ℕ) (x : Item) → StandsIn order i x → ended ≤ x.begin → place ≤ i

-- each run is linearizable by a sequence in which each look has a place; and of two looks, of which one had ended
-- before the other began, that one has no later place
pub record IsLinearizedWithLooks (plan : TablePlan) (opened : TableState) (turns : List Turn)
    (s' : TableState) : Type 0 where
  pub calls : IsLinearized plan opened turns s'
  pub looks : (ended key : ℕ) (there : Option ℕ) (look : IsLook plan opened turns ended key there)
      → HasPlace (contents_of plan.start) turns calls.order (began plan opened turns ended key there look) ended key there
  pub keeps : (ended key : ℕ) (there : Option ℕ) (look : IsLook plan opened turns ended key there)
      → (ended' key' : ℕ) (there' : Option ℕ) (later : IsLook plan opened turns ended' key' there')
      → ended ≤ began plan opened turns ended' key' there' later
      → (looks ended key there look).place ≤ (looks ended' key' there' later).place

abbrev pub LooksHavePlaces : Type 0
LooksHavePlaces = (plan : TablePlan) (opened : TableState) → Starts plan opened → (turns : List Turn) (s' : TableState)
    → TableRun plan opened turns s' → IsLinearizedWithLooks plan opened turns s'
