use Rattle.std.specs.Prelude.{◌≡◌, ◌≢◌, ℕ, ◌+◌, ◌≤◌, None, List, [], ◌∷◌}
use mathlib.Core.Option.{some}
use lib.ListN.{get_elem?}
use Rattle.ell_runs.specs.declared.view.View.{View}
use Rattle.ell_runs.specs.Plans.{TablePlan}
use Rattle.ell_runs.specs.Views.{whole_share}
use Rattle.ell_runs.specs.States.{TableState}
use Rattle.ell_runs.specs.Starts.{IsReached}

-- the shares of these passes together
abbrev pub all_shares : List View → ℕ
all_shares [] = 0
all_shares (v ∷ vs) = v.share + all_shares vs

-- the passes of a state have the whole share together, and each that may change a shared key has some of it: so one
-- that has the whole is the only one that may
pub record HaveTheWhole (s : TableState) : Type 0 where
  pub whole : all_shares s.views ≡ whole_share
  pub each : (j : ℕ) (v : View) → get_elem? s.views j ≡ some v → v.worker.shared ≢ None → 1 ≤ v.share

-- so they do wherever turns have led a table
abbrev pub SharesAddUp : Type 0
SharesAddUp = (plan : TablePlan) (s : TableState) → IsReached plan s → HaveTheWhole s
