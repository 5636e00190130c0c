-- What a step call leaves of a pass is so of what is shown of it too.
use Rattle.std.specs.Prelude.{ℕ}
use Rattle.ell_runs.specs.declared.call.Call.{Call}
use Rattle.ell_runs.specs.declared.view.View.{View}
use Rattle.ell_runs.specs.Plans.{TablePlan}
use Rattle.ell_cards.specs.Apart.{IsApart}
use Rattle.ell_runs.specs.Calls.{May}
use Rattle.ell_cards.specs.Shown.{cut_by, shown, shown_call, CanBeShown, IsNoClaim}
use Rattle.ell_cards.specs.Stepping.{IsTaken}

-- what a step call of the pass leaves of it is what the call that is shown leaves of what is shown of it
abbrev pub TakingsAreShown : Type 0
TakingsAreShown = (plan : TablePlan) (c : Call) (v : View) (n : ℕ) (w : View) → IsNoClaim c → IsApart plan v → IsApart plan w
    → May plan c v → CanBeShown c n → IsTaken plan c v n w → IsTaken plan (shown_call c) (shown v) (cut_by c n) (shown w)
