use Rattle.std.proofs.Common.{◌≡◌, ◌≢◌, ℕ, Bool, true, false, None, refl, inr}
use Rattle.std.specs.List.{All}
use mathlib.Core.Option.{some}
use lib.ListN.{get_elem?}
use Rattle.ell_core.specs.state.Machine.{ledger_of}
use Rattle.ell_runs.specs.declared.view.View.{View}
use Rattle.ell_runs.specs.Plans.{TablePlan}
use Rattle.ell_runs.specs.Views.{IsFree, whole_share}
use Rattle.ell_runs.specs.States.{TableState}
use Rattle.ell_runs.specs.Starts.{IsReached}
use Rattle.ell_cards.specs.Closed.{TableEnds}
use Rattle.ell_cards.specs.Shown.{shown}
use Rattle.ell_cards.proofs.lemmas.lifetimes.Ends.{shows}
use Rattle.ell_runs.proofs.lemmas.runs.Reaching.{reached_kept, reached_ran}
use Rattle.ell_runs.proofs.lemmas.runs.Sharing.{IsAlone, reached_closed}
use Rattle.ell_runs.proofs.lemmas.runs.Shares.{alone_with_the_whole}

-- no other pass may change a shared key: none is shared, or the pass has the whole share
alone : (plan : TablePlan) (s : TableState) → IsReached plan s → (id : ℕ) (v : View) → get_elem? s.views id ≡ some v → (plan.shared ≡ true → v.share ≡ whole_share)
    → IsAlone s id
alone plan s h id v here whole = by plan.shared refl
  where
    by : (b : Bool) → plan.shared ≡ b → IsAlone s id
    by true mode = alone_with_the_whole plan s h id v here (whole mode)
    by false mode = λ j u at. inr (reached_closed plan s mode h j u at)

-- how a table ends that was led here, by a pass with nothing in hand that owns each key that may have an owner, and has the whole share if the
-- others are shared
pub ends : (plan : TablePlan) (s : TableState) → IsReached plan s → (id : ℕ) (v : View) → get_elem? s.views id ≡ some v → IsFree v → (plan.shared ≡ true → v.share ≡ whole_share)
    → All (λ k. ledger_of v.worker.ledger k ≢ None) plan.keys → TableEnds plan (shown v) (record { words = s.words; last_card = plan.last_card })
ends plan s h id v here free whole all = record {
  ran = record { state = s; seat = id; same = refl; knows = v; shows = refl; seen = here; reached = h; did = reached_ran plan s h };
  shows = shows plan s h (reached_kept plan s h) id v here (alone plan s h id v here whole) free all;
}
