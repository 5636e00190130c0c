use Rattle.std.specs.Prelude.{◌≡◌, ℕ, ◌<◌, ◌⊎◌, Option, Some, List, [], ◌∷◌, take}
use mathlib.Core.Option.{some}
use lib.ListN.{get_elem?}
use Rattle.ell_ops.specs.declared.op.Op.{Op}
use Rattle.ell_ops.specs.declared.reply.Reply.{Reply}
use Rattle.ell_ops.specs.Contents.{contents_of}
use Rattle.ell_core.specs.statements.Effects.{reply_of_change}
use Rattle.ell_ops.specs.Meaning.{replies, final}
use Rattle.ell_runs.specs.declared.call.Call.TheVariants as call
use Rattle.ell_runs.specs.declared.view.View.{View}
use Rattle.ell_runs.specs.Plans.{TablePlan}
use Rattle.ell_runs.specs.States.{TableState}
use Rattle.ell_runs.specs.Turns.{Turn, Makes, TableRun}
use Rattle.ell_runs.specs.TurnEffects.{own_words, IsAtWork, turn_wins}
use Rattle.ell_runs.specs.Starts.{Starts}
use Rattle.ell_runs.specs.Meanwhile.{KeepOn}
use Rattle.ell_runs.specs.Changing.{HasMap, change_of, turn_effect}

-- between two turns of a run, which are named by how many turns came before them, the pass in a seat takes no other
-- operation in hand, and is not split or joined
abbrev pub KeepsOnBetween : ℕ → List Turn → ℕ → ℕ → Type 0
KeepsOnBetween seat turns first last =
    (k : ℕ) (turn : Turn) → first < k → k < last → get_elem? turns k ≡ some turn → KeepOn seat (turn ∷ [])

-- a call that has ended: in one turn a pass begins the operation, in a later one it answers it, and in between it goes
-- on with it
pub record IsAnswered (turns : List Turn) (begin end : ℕ) (op : Op) (said : Reply) : Type 0 where
  pub seat : ℕ
  pub begins : get_elem? turns begin ≡ some (Makes seat (call.Begin op))
  pub later : begin < end
  pub on : KeepsOnBetween seat turns begin end
  pub took : Option ℕ
  pub answers : get_elem? turns end ≡ some (Makes seat (call.Answer said took))

-- after so many turns of a run the table is in this state, and this is its next turn
pub record IsTurn (plan : TablePlan) (s : TableState) (turns : List Turn) (k : ℕ) (state : TableState)
    (turn : Turn) : Type 0 where
  pub led : TableRun plan s (take k turns) state
  pub at : get_elem? turns k ≡ some turn

-- a turn of a run changes the tree by an operation: in it, by whichever pass, the child exchange of a card is won that
-- a pass has in hand for that operation
pub record ChangesBy (plan : TablePlan) (s : TableState) (turns : List Turn) (change : ℕ) (op : Op) : Type 0 where
  pub state : TableState
  pub turn : Turn
  pub is : IsTurn plan s turns change state turn
  pub effect : turn_effect state turn ≡ op ∷ []
  pub card : ℕ
  pub own : turn_wins state turn card ≡ change_of op
  pub work : IsAtWork state card op

-- a call that changes the tree, whether it has ended or not: in one turn a pass begins the operation, and while the
-- pass goes on with it, a later one changes the tree by it, for the card that the pass has in hand
pub record ChangesAt (plan : TablePlan) (s : TableState) (turns : List Turn) (begin change : ℕ) (op : Op) : Type 0 where
  pub by : ChangesBy plan s turns change op
  pub begins : get_elem? turns begin ≡ some (Makes by.work.seat (call.Begin op))
  pub later : begin < change
  pub on : KeepsOnBetween by.work.seat turns begin change

-- a call in a sequence: the turn in which it begins, its operation, and its reply
pub record Item : Type 0 where
  pub begin : ℕ
  pub op : Op
  pub reply : Reply

-- the operations of a sequence
abbrev pub ops_of : List Item → List Op
ops_of [] = []
ops_of (item ∷ items) = item.op ∷ ops_of items

-- and its replies
abbrev pub replies_of : List Item → List Reply
replies_of [] = []
replies_of (item ∷ items) = item.reply ∷ replies_of items

-- an item stands in a sequence after so many others
abbrev pub StandsIn : List Item → ℕ → Item → Type 0
StandsIn order i item = get_elem? order i ≡ some item

-- the sequence has it
abbrev pub HasItem : List Item → Item → Type 0
HasItem order item = (i : ℕ) × StandsIn order i item

-- an item is a call that has changed the tree and has not ended, with the answer of a change
pub record IsPending (plan : TablePlan) (s : TableState) (turns : List Turn) (item : Item) : Type 0 where
  pub change : ℕ
  pub changes : ChangesAt plan s turns item.begin change item.op
  pub unended : (end : ℕ) (op : Op) (said : Reply) → ¬ IsAnswered turns item.begin end op said
  pub says : item.reply ≡ reply_of_change item.op

-- an item may be in the sequence of a run: it is a call that has ended, with its answer, or such a one
abbrev pub IsMade : TablePlan → TableState → List Turn → Item → Type 0
IsMade plan s turns item =
    ((end : ℕ) × IsAnswered turns item.begin end item.op item.reply) ⊎ IsPending plan s turns item

-- which calls the sequence of a run has: each that has ended, with its answer; each that has changed the tree, with the
-- answer of a change; no other; and each once
pub record HasTheCalls (plan : TablePlan) (s : TableState) (turns : List Turn) (order : List Item) : Type 0 where
  pub ended : (begin end : ℕ) (op : Op) (said : Reply) → IsAnswered turns begin end op said
      → HasItem order (record { begin = begin; op = op; reply = said })
  pub changed : (begin change : ℕ) (op : Op) → ChangesAt plan s turns begin change op
      → HasItem order (record { begin = begin; op = op; reply = reply_of_change op })
  pub other : (item : Item) → HasItem order item → IsMade plan s turns item
  pub once : (i j : ℕ) (x y : Item) → StandsIn order i x → StandsIn order j y → x.begin ≡ y.begin → i ≡ j

-- a call that ended before another began stands before it
abbrev pub KeepsTheOrder : List Turn → List Item → Type 0
KeepsTheOrder turns order = (i j : ℕ) (x y : Item) → StandsIn order i x → StandsIn order j y
    → (end : ℕ) → IsAnswered turns x.begin end x.op x.reply → end < y.begin → i < j

-- an answer is that of a call which began in an earlier turn
pub record EndsACall (turns : List Turn) (end : ℕ) (said : Reply) : Type 0 where
  pub begin : ℕ
  pub op : Op
  pub ended : IsAnswered turns begin end op said

-- so is each answer
abbrev pub AnswersEndCalls : List Turn → Type 0
AnswersEndCalls turns = (seat end : ℕ) (said : Reply) (took : Option ℕ)
    → get_elem? turns end ≡ some (Makes seat (call.Answer said took))
    → EndsACall turns end said

-- a change of the tree is that of a call which began in an earlier turn
pub record IsOfACall (plan : TablePlan) (s : TableState) (turns : List Turn) (change : ℕ) (op : Op) : Type 0 where
  pub begin : ℕ
  pub changes : ChangesAt plan s turns begin change op

-- so is each turn by which the tree changes
abbrev pub ChangesAreOfCalls : TablePlan → TableState → List Turn → Type 0
ChangesAreOfCalls plan s turns = (k : ℕ) (state : TableState) (turn : Turn) (op : Op) → IsTurn plan s turns k state turn
    → turn_effect state turn ≡ op ∷ []
    → IsOfACall plan s turns k op

-- no call changes the tree twice
abbrev pub CallsChangeOnce : TablePlan → TableState → List Turn → Type 0
CallsChangeOnce plan s turns =
    (begin change again : ℕ) (op o : Op) → ChangesAt plan s turns begin change op → ChangesAt plan s turns begin again o
    → change ≡ again

-- A run of a table is linearizable, as Herlihy and Wing define it in "Linearizability: a correctness condition for
-- concurrent objects" (1990), section 2, of the object that is a finite map. There is one sequence of calls, as if one
-- thread made one after the other. It has each call of the run that has ended, with its answer; of those that have not
-- ended, it has each that has changed the tree, as if that had answered yes, or a swap the value that it has replaced;
-- and it has each once. Of two calls, of which one ended before the other began, it has that one first. Its replies are
-- those of the map that has the start keys first, and what they leave is the tree. Each answer of the run is of one of
-- its calls, and so is each change of the tree; and no call changes it twice.
pub record IsLinearized (plan : TablePlan) (opened : TableState) (turns : List Turn) (s' : TableState) : Type 0 where
  pub order : List Item
  pub calls : HasTheCalls plan opened turns order
  pub keeps : KeepsTheOrder turns order
  pub replies : replies_of order ≡ replies (contents_of plan.start) (ops_of order)
  pub leaves : HasMap (own_words s') (final (contents_of plan.start) (ops_of order))
  pub answers : AnswersEndCalls turns
  pub changes : ChangesAreOfCalls plan opened turns
  pub single : CallsChangeOnce plan opened turns

-- so is each run from a start, by any passes in any order
abbrev pub RunsAreLinearizable : Type 0
RunsAreLinearizable =
    (plan : TablePlan) (opened : TableState) → Starts plan opened → (turns : List Turn) (s' : TableState)
    → TableRun plan opened turns s' → IsLinearized plan opened turns s'

-- a call of the pass in a seat that it answered so
pub record IsItsCall (turns : List Turn) (seat : ℕ) (op : Op) (said : Reply) : Type 0 where
  pub begin : ℕ
  pub end : ℕ
  pub ended : IsAnswered turns begin end op said
  pub own : ended.seat ≡ seat

-- what a pass answered last is a call of each run from a start that leads there: its sequence has it
abbrev pub LastAnswersAreOfCalls : Type 0
LastAnswersAreOfCalls = (plan : TablePlan) (v : View) (op : Op) (said : Reply) (card took : Option ℕ)
    → v.answered ≡ Some (record { op = op; said = said; card = card; took = took })
    → (opened : TableState) → Starts plan opened → (turns : List Turn) (s' : TableState)
    → TableRun plan opened turns s'
    → (seat : ℕ) → get_elem? s'.views seat ≡ some v → IsItsCall turns seat op said
