use Rattle.std.specs.Prelude.{◌≡◌, ◌≢◌, ℕ, List, [], ◌∷◌, ◌++◌, slice_index, slice_set}
use mathlib.Core.Option.{some}
use lib.ListN.{get_elem?}
use Rattle.ell_runs.specs.declared.call.Call.{Call}
use Rattle.ell_runs.specs.declared.view.View.{View}
use Rattle.ell_runs.specs.Views.{IsFree, MayPart}
use Rattle.ell_runs.specs.Changes.{left_view, right_view, joined_view, spent_view}
use Rattle.ell_runs.specs.Calls.{word_of, atomic_of, left_by, after, May}
use Rattle.ell_runs.specs.States.{TableState}
use Rattle.ell_runs.specs.Plans.{TablePlan}

-- the word that a step call finds
abbrev pub found_by : TableState → Call → ℕ
found_by s c = slice_index s.words (word_of c)

-- what the pass in a seat knows after a step call
abbrev pub view_after : TableState → View → Call → View
view_after s v c = after c (found_by s c) v

-- the state after a call of the pass in a seat: its word is what its atomic step leaves, its view what the call says
abbrev pub state_after : TableState → ℕ → View → Call → TableState
state_after s id v c = record s {
  words = slice_set s.words (word_of c) (left_by (atomic_of c) (found_by s c));
  views = slice_set s.views id (view_after s v c);
}

-- the state after a split of the pass in a seat: the seat has the left part, and a new one at the end the right part
abbrev pub state_split : TableState → ℕ → View → List ℕ → TableState
state_split s id v left = record s { views = slice_set s.views id (left_view left v) ++ right_view left v ∷ [] }

-- the state after a join of the passes in two seats: the first has what both had, and the other nothing
abbrev pub state_joined : TableState → ℕ → ℕ → View → View → TableState
state_joined s id other v w = record s { views = slice_set (slice_set s.views id (joined_view v w)) other spent_view }

-- a turn: the pass in a seat makes a step call, or is split, and its left part gets these keys, or is joined with one
pub data Turn : Type 0 where
  Makes : ℕ → Call → Turn
  Splits : ℕ → List ℕ → Turn
  Joins : ℕ → ℕ → Turn

-- the pass in a seat may make a call, and the table is this after it
pub record CallIsMade (plan : TablePlan) (s : TableState) (seat : ℕ) (c : Call) (s' : TableState) : Type 0 where
  pub view : View
  pub there : get_elem? s.views seat ≡ some view
  pub may : May plan c view
  pub gives : s' ≡ state_after s seat view c

-- the pass in a seat has nothing in hand and may be parted, and the table is this after its split
pub record SplitIsMade (s : TableState) (seat : ℕ) (left : List ℕ) (s' : TableState) : Type 0 where
  pub view : View
  pub there : get_elem? s.views seat ≡ some view
  pub free : IsFree view
  pub may : MayPart view
  pub gives : s' ≡ state_split s seat view left

-- the passes in two seats have nothing in hand, and the table is this after their join
pub record JoinIsMade (s : TableState) (seat other : ℕ) (s' : TableState) : Type 0 where
  pub view : View
  pub view' : View
  pub there : get_elem? s.views seat ≡ some view
  pub there' : get_elem? s.views other ≡ some view'
  pub apart : seat ≢ other
  pub free : IsFree view
  pub free' : IsFree view'
  pub gives : s' ≡ state_joined s seat other view view'

-- what a turn makes of a table with this last card
abbrev pub TableTurns : TablePlan → TableState → Turn → TableState → Type 0
TableTurns plan s (Makes seat c) s' = CallIsMade plan s seat c s'
TableTurns plan s (Splits seat left) s' = SplitIsMade s seat left s'
TableTurns plan s (Joins seat other) s' = JoinIsMade s seat other s'

-- a run of a table: turns of any passes, one after the other
abbrev pub TableRun : TablePlan → TableState → List Turn → TableState → Type 0
TableRun plan s [] s' = s' ≡ s
TableRun plan s (t ∷ ts) s' = (between : TableState) × TableTurns plan s t between × TableRun plan between ts s'
