use Rattle.std.specs.Prelude.{◌≡◌, ◌≢◌, ℕ, ◌≤◌, true, Option, Some, None, List, [], ◌∷◌, ◌++◌, length}
use mathlib.Core.Option.{some}
use lib.ListN.{get_elem?}
use Rattle.ell_ops.specs.declared.op.Op.{Op}
use Rattle.ell_ops.specs.declared.reply.Reply.{Reply}
use Rattle.ell_ops.specs.Contents.{contents_of}
use Rattle.ell_runs.specs.declared.call.Call.{Call}
use Rattle.ell_runs.specs.declared.call.Call.TheVariants as call
use Rattle.ell_runs.specs.declared.view.Act.{Act}
use Rattle.ell_runs.specs.declared.view.Event.{Event}
use Rattle.ell_runs.specs.declared.view.Event.TheVariants.{Begins, Ends, Looks}
use Rattle.ell_runs.specs.declared.view.Sight.{Sight}
use Rattle.ell_runs.specs.declared.view.View.{View}
use Rattle.ell_runs.specs.Histories.{IsCall, IsLinearizable}
use Rattle.ell_runs.specs.Linearizing.{Item, HasItem}
use Rattle.ell_runs.specs.Views.{Has, IsFree, whole_share}
use Rattle.ell_runs.specs.Plans.{TablePlan}
use Rattle.ell_runs.specs.Sights.{IsPart}

-- the pass in a seat began an operation there
abbrev pub BeganAt : List Event → ℕ → ℕ → Type 0
BeganAt history seat b = (op : Op) × (get_elem? history b ≡ some (Begins seat op))

-- or a look
abbrev pub LookedAt : List Event → ℕ → ℕ → Type 0
LookedAt history seat n = get_elem? history n ≡ some (Looks seat)

-- what the pass in a seat has seen is a beginning of the history, in which it began an operation and a look where it
-- says, and its calls are calls of the history
pub record HasSeen (history : List Event) (seat : ℕ) (g : Sight) : Type 0 where
  pub part : IsPart g.seen history
  pub began : (b : ℕ) → g.begun ≡ Some b → BeganAt history seat b
  pub looks : (n : ℕ) → g.looked ≡ Some n → LookedAt history seat n
  pub mine : (a : Act) → Has g.mine a → IsCall history a.begin a.end a.op a.said a.took

-- each call of a list stands in it once: no two of its calls begin together
abbrev pub AreApart : List Act → Type 0
AreApart [] = Unit {0}
AreApart (a ∷ mine) = ((b : Act) → Has mine b → b.begin ≢ a.begin) × AreApart mine

-- a pass has nothing left of a table that shares its keys: it takes none for a shared one
abbrev pub IsSpentIn : TablePlan → View → Type 0
IsSpentIn plan v = (plan.shared ≡ true) × (v.worker.shared ≡ None)

-- The pass begins an operation, and has seen the history up to that: it begins behind all that the pass had seen.
pub record SeesBegin (op : Op) (old new : Sight) : Type 0 where
  pub seat : ℕ
  pub before : List Event
  pub more : IsPart old.seen before
  pub seen : new.seen ≡ before ++ Begins seat op ∷ []
  pub begun : new.begun ≡ Some (length before)
  pub mine : new.mine ≡ old.mine

-- The pass answers an operation, and has seen the history up to that: its last call is the pass's own, which it began no
-- earlier than the operation that it had begun last.
pub record SeesEnd (op : Op) (said : Reply) (took : Option ℕ) (old new : Sight) : Type 0 where
  pub seat : ℕ
  pub before : List Event
  pub more : IsPart old.seen before
  pub seen : new.seen ≡ before ++ Ends seat said took ∷ []
  pub begin : ℕ
  pub call : IsCall new.seen begin (length before) op said took
  pub last : (b : ℕ) → old.begun ≡ Some b → b ≤ begin
  pub begun : new.begun ≡ old.begun
  pub mine : new.mine
      ≡ record { begin = begin; end = length before; op = op; said = said; took = took } ∷ old.mine

-- The pass begins a look, and has seen the history up to that: it begins behind all that the pass had seen.
pub record SeesLook (old new : Sight) : Type 0 where
  pub seat : ℕ
  pub before : List Event
  pub more : IsPart old.seen before
  pub seen : new.seen ≡ before ++ Looks seat ∷ []
  pub looked : new.looked ≡ Some (length before)
  pub begun : new.begun ≡ old.begun
  pub mine : new.mine ≡ old.mine

-- what a pass that knows this of the tree has seen after a step call, where it had seen that before
abbrev pub Marks : Call → View → Sight → Sight → Type 0
Marks (call.Begin op) v old new = SeesBegin op old new
Marks (call.Answer said took) v old new = (op : Op) → v.worker.operation ≡ Some op → SeesEnd op said took old new
Marks call.Look v old new = SeesLook old new
Marks _ v old new = new ≡ old

-- a step call that neither begins an operation or a look nor answers an operation
abbrev pub IsCalm : Call → Type 0
IsCalm (call.Begin op) = ⊥
IsCalm (call.Answer said took) = ⊥
IsCalm call.Look = ⊥
IsCalm _ = Unit {0}

-- a pass has seen more of the history, and has the calls that it had
pub record HasSeenMore (old new : Sight) : Type 0 where
  pub more : IsPart old.seen new.seen
  pub mine : new.mine ≡ old.mine

-- What a pass has seen of a call that it was answered: the call began behind all that the pass had seen, it is one of the
-- history that the pass has seen now, and it is the last one of the pass's calls.
pub record SeesCall (op : Op) (said : Reply) (took : Option ℕ) (old new : Sight) : Type 0 where
  pub begin : ℕ
  pub end : ℕ
  pub after : length old.seen ≤ begin
  pub more : IsPart old.seen new.seen
  pub call : IsCall new.seen begin end op said took
  pub mine : new.mine ≡ record { begin = begin; end = end; op = op; said = said; took = took } ∷ old.mine

-- What a pass knows that has seen all of its table's history up to now: the history is linearizable; the calls that the
-- pass was answered, it and those that were joined to it, are calls of it, and no two are one; and where only the plan's
-- keys have owners, and the pass has the whole share and nothing in hand, the order has no others.
pub record HasSeenAll (plan : TablePlan) (v : View) (g : Sight) : Type 0 where
  pub linear : IsLinearizable (contents_of plan.start) g.seen
  pub calls : (a : Act) → Has g.mine a → IsCall g.seen a.begin a.end a.op a.said a.took
  pub apart : AreApart g.mine
  pub all : plan.shared ≡ true → v.share ≡ whole_share → IsFree v → (item : Item) → HasItem linear.order item
      → (end : ℕ) × (took : Option ℕ)
      × Has g.mine (record { begin = item.begin; end = end; op = item.op; said = item.reply; took = took })
