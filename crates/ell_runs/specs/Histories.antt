use Rattle.std.specs.Prelude.{◌≡◌, ◌≢◌, ℕ, ◌<◌, ◌⊎◌, Option, Some, List, map, take}
use mathlib.Core.Option.{some}
use lib.ListN.{get_elem?}
use Rattle.ell_ops.specs.declared.op.Op.{Op}
use Rattle.ell_ops.specs.declared.reply.Reply.{Reply}
use Rattle.ell_ops.specs.Contents.{Contents, contents_of}
use Rattle.ell_ops.specs.Meaning.{key_of, replies, final}
use Rattle.ell_runs.specs.declared.call.Call.TheVariants as call
use Rattle.ell_runs.specs.declared.view.Event.{Event}
use Rattle.ell_runs.specs.declared.view.Event.TheVariants.{Begins, Ends, Looks, Quiet}
use Rattle.ell_runs.specs.Plans.{TablePlan}
use Rattle.ell_runs.specs.States.{TableState}
use Rattle.ell_runs.specs.Turns.{Turn, Makes, TableRun}
use Rattle.ell_runs.specs.TurnEffects.{own_words}
use Rattle.ell_runs.specs.Starts.{Starts}
use Rattle.ell_runs.specs.Changing.{HasMap}
use Rattle.ell_runs.specs.Linearizing.{Item, ops_of, replies_of, StandsIn, HasItem}

-- a call of a history: the thread in a seat begins an operation, begins no other, and answers, by a reply and, if it is
-- a delete that took a value, by that; begin and end are the numbers of steps before these two
pub record IsCall (history : List Event) (begin end : ℕ) (op : Op) (said : Reply) (took : Option ℕ) : Type 0 where
  pub seat : ℕ
  pub begins : get_elem? history begin ≡ some (Begins seat op)
  pub later : begin < end
  pub none : (k : ℕ) (o : Op) → begin < k → k < end → get_elem? history k ≢ some (Begins seat o)
  pub ends : get_elem? history end ≡ some (Ends seat said took)

-- an operation that was begun, and has no answer
pub record HasNoEnd (history : List Event) (begin : ℕ) (op : Op) : Type 0 where
  pub seat : ℕ
  pub begins : get_elem? history begin ≡ some (Begins seat op)
  pub none : (end : ℕ) (o : Op) (said : Reply) (took : Option ℕ) → ¬ IsCall history begin end o said took

-- A history is linearizable, as Herlihy and Wing define it in "Linearizability: a correctness condition for concurrent
-- objects" (1990), section 2, of the object that is a finite map with these contents first. There is an order of its
-- calls: of each that has an answer, with that answer; of some that have none, with an answer that they may yet get; of
-- no other, and of each once. What ended before another began comes before it. The answers are those of one thread that
-- makes the calls in this order; and a delete took the value that this thread would take
pub record IsLinearizable (start : Contents) (history : List Event) : Type 0 where
  pub order : List Item
  pub ended : (begin end : ℕ) (op : Op) (said : Reply) (took : Option ℕ) → IsCall history begin end op said took
      → HasItem order (record { begin = begin; op = op; reply = said })
  pub other : (item : Item) → HasItem order item
      → ((end : ℕ) × (took : Option ℕ) × IsCall history item.begin end item.op item.reply took)
      ⊎ HasNoEnd history item.begin item.op
  pub once : (i j : ℕ) (x y : Item) → StandsIn order i x → StandsIn order j y → x.begin ≡ y.begin → i ≡ j
  pub keeps : (i j : ℕ) (x y : Item) → StandsIn order i x → StandsIn order j y → (end : ℕ) (took : Option ℕ)
      → IsCall history x.begin end x.op x.reply took → end < y.begin → i < j
  pub replies : replies_of order ≡ replies start (ops_of order)
  pub takes : (i : ℕ) (x : Item) → StandsIn order i x → (end value : ℕ)
      → IsCall history x.begin end x.op x.reply (Some value)
      → final start (ops_of (take i order)) (key_of x.op) ≡ Some value

-- what a turn is in a history
abbrev pub event_of : Turn → Event
event_of (Makes seat (call.Begin op)) = Begins seat op
event_of (Makes seat (call.Answer said took)) = Ends seat said took
event_of (Makes seat call.Look) = Looks seat
event_of _ = Quiet

-- the history of a run
abbrev pub history_of : List Turn → List Event
history_of turns = map event_of turns

-- a history is linearizable, and what its calls leave in their order is the tree
pub record HasHistory (start : Contents) (history : List Event) (s' : TableState) : Type 0 where
  pub linear : IsLinearizable start history
  pub leaves : HasMap (own_words s') (final start (ops_of linear.order))

-- so it is of each run from a start, by any passes in any order
abbrev pub HistoriesAreLinearizable : Type 0
HistoriesAreLinearizable = (plan : TablePlan) (opened : TableState) → Starts plan opened → (turns : List Turn)
    (s' : TableState) → TableRun plan opened turns s'
    → HasHistory (contents_of plan.start) (history_of turns) s'
