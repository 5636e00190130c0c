use Rattle.std.specs.Prelude.{◌≡◌, ◌≢◌, ℕ, ◌<◌, false, slice_index, slice_set}
use mathlib.Core.Option.{some}
use lib.ListN.{get_elem?}
use Rattle.ell_runs.specs.declared.call.Call.{Call}
use Rattle.ell_runs.specs.declared.call.Call.TheVariants as call
use Rattle.ell_runs.specs.declared.view.View.{View}
use Rattle.ell_runs.specs.Changes.{after_claim}
use Rattle.ell_runs.specs.Calls.{word_of, atomic_of, left_by, is_won, after, May}
use Rattle.ell_runs.specs.States.{TableState}
use Rattle.ell_runs.specs.Turns.{found_by}
use Rattle.ell_runs.specs.Starts.{IsReached}
use Rattle.ell_runs.specs.Plans.{TablePlan}
use Rattle.ell_runs.specs.declared.call.NewNode.{NewNode}

-- the state after the atomic step of a call of the pass in a seat, which tells that its word was this one, whatever the
-- word was
abbrev pub told_of : TableState → ℕ → View → Call → ℕ → TableState
told_of s id v c n = record {
  words = slice_set s.words (word_of c) (left_by (atomic_of c) (found_by s c));
  views = slice_set s.views id (after c n v);
}

-- no step can tell that the claim word was greater than it is: nowhere do turns lead to the state after it
abbrev pub NoGreaterNext : Type 0
NoGreaterNext = (plan : TablePlan) (s : TableState) → IsReached plan s → (id : ℕ) (v : View)
    → get_elem? s.views id ≡ some v → (n : ℕ) → found_by s call.Next < n → ¬ IsReached plan (told_of s id v call.Next n)

-- nor that a node where the pass stands has a greater update word than it has: no flag that is still to come, and none
-- taken away that stands
abbrev pub NoGreaterUpdate : Type 0
NoGreaterUpdate = (plan : TablePlan) (s : TableState) → IsReached plan s → (id : ℕ) (v : View)
    → get_elem? s.views id ≡ some v → (x : ℕ) → May plan (call.Upd x) v → (n : ℕ)
    → found_by s (call.Upd x) < n
    → ¬ IsReached plan (told_of s id v (call.Upd x) n)

-- nor of an exchange that the pass may make, whichever it is, that it was lost where it was won, nor that it was won
-- where it was lost
abbrev pub NoOtherOutcome : Type 0
NoOtherOutcome = (plan : TablePlan) (s : TableState) → IsReached plan s → (id : ℕ) (v : View)
    → get_elem? s.views id ≡ some v → (c : Call) → May plan c v → (n : ℕ)
    → is_won (atomic_of c) n ≢ is_won (atomic_of c) (found_by s c)
    → ¬ IsReached plan (told_of s id v c n)

-- nor can the claim of the next card be lost that was not tried, whatever key its node would get
abbrev pub NoUntriedClaimLost : Type 0
NoUntriedClaimLost = (plan : TablePlan) (s : TableState) → IsReached plan s → (id : ℕ) (v : View)
    → get_elem? s.views id ≡ some v → (node : NewNode) → ¬ IsReached plan (record {
      words = s.words;
      views = slice_set s.views id (after_claim false (slice_index s.words 0) node v);
    })
