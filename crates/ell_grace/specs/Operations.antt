use Rattle.std.specs.Prelude.{◌≡◌, ℕ, ◌⊎◌, true, false, Some, List, [], ◌∷◌}
use Rattle.ell_ops.specs.declared.op.Op.{Op}
use Rattle.ell_ops.specs.Meaning.{key_of}
use Rattle.ell_core.specs.declared.event.Act.{Act}
use Rattle.ell_core.specs.declared.event.Act.TheVariants as act
use Rattle.ell_core.specs.declared.event.Event.{Event}
use Rattle.ell_core.specs.declared.event.Shown.{Shown}
use Rattle.ell_core.specs.declared.fact.Fact.{Fact}
use Rattle.ell_core.specs.declared.view.Seen.{Seen}
use Rattle.ell_layout.specs.Words.{Words}
use Rattle.ell_core.specs.state.Facts.{Knowledge, card_of_fact}
use Rattle.ell_core.specs.state.Machine.{Worker, Machine}
use Rattle.ell_core.specs.acts.Searching.{at_root}
use Rattle.ell_core.specs.acts.Runs.{Run}
use Rattle.ell_core.specs.tree.Tree.{OnWalk}
use Rattle.ell_core.specs.history.Stages.{Stages}
use Rattle.ell_core.specs.statements.Since.{has_ended, GoesOn}
use Rattle.ell_grace.specs.Gone.{IsGone, HasOuts}
use Rattle.ell_grace.specs.Cards.{CardsSince}

-- the walk for a key from x, in the words of now, comes by no node that was gone at these words and stages
abbrev pub AvoidsGone : Words → Stages → Words → ℕ → ℕ → Type 0
AvoidsGone w stage now key x = (y : ℕ) → IsGone w stage y → ¬ OnWalk now key x y

-- What a worker has come to know in an operation that it began at these words and stages, when it knew this: its walk, from
-- where it stands on, comes by no node that was gone then; its parent and its grandparent were not gone then; and each card
-- of which it has learnt anything had not ended then.
pub record WorkerSince (w : Words) (stage : Stages) (known : Knowledge) (now : Words) (v : Worker) : Type 0 where
  pub walk : (op : Op) (x : ℕ) → v.operation ≡ Some op → v.search.node ≡ Some x → AvoidsGone w stage now (key_of op) x
  pub parent : (seen : Seen) → v.search.parent ≡ Some seen → ¬ IsGone w stage seen.node
  pub grandparent : (seen : Seen) → v.search.grandparent ≡ Some seen → ¬ IsGone w stage seen.node
  pub facts : (fact : Fact) → v.knows fact ≡ true
      → (known fact ≡ true) ⊎ (has_ended (stage (card_of_fact fact)) ≡ false)

-- the card that an act names
abbrev pub Names : Act → ℕ → Type 0
Names (act.IChild c) d = c ≡ d
Names (act.IUnflag c) d = c ≡ d
Names (act.Mark c) d = c ≡ d
Names (act.DChild c) d = c ≡ d
Names (act.DUnflag c) d = c ≡ d
Names (act.Backtrack c) d = c ≡ d
Names _ d = ⊥

-- an act goes on with an operation, and names no card that had ended at these stages
abbrev pub KeepsTo : Stages → Act → Type 0
KeepsTo stage a = GoesOn a × ((c : ℕ) → Names a c → has_ended (stage c) ≡ false)

-- in these events a worker goes on with one operation, and acts for no card that had ended at these stages
abbrev pub KeepsOn : Stages → ℕ → List Event → Type 0
KeepsOn stage i [] = Unit {0}
KeepsOn stage i (e ∷ es) = (e.worker ≡ i → KeepsTo stage e.act) × KeepsOn stage i es

-- after a run from this state: what the worker has come to know, and what the cards name that had not ended then, was not
-- gone then
pub record KnowsNothingGone (m : Machine) (stage : Stages) (i : ℕ) (m' : Machine) : Type 0 where
  pub later : HasOuts m'
  pub cards : CardsSince m.words stage m'.words later.stages
  pub worker : WorkerSince m.words stage (m.worker i).knows m'.words (m'.worker i)

-- so it is after every run in which a worker begins at the root and goes on with one operation, whatever the others do
abbrev pub OperationsMeetNothingGone : Type 0
OperationsMeetNothingGone = (m : Machine) (has : HasOuts m) (i : ℕ) → (m.worker i).search ≡ at_root
    → (events : List Event) (answers : List Shown) (m' : Machine) → Run m events answers m' → KeepsOn has.stages i events
    → KnowsNothingGone m has.stages i m'
