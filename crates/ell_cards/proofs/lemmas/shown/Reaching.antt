use Rattle.std.proofs.Common.{◌≡◌, ℕ, refl, sym, subst}
use lib.ListN.{get_elem?}
use mathlib.Core.Option.{some}
use Rattle.ell_runs.specs.declared.call.Call.{Call}
use Rattle.ell_runs.specs.declared.call.Call.TheVariants as call
use Rattle.ell_layout.specs.declared.field.Field.{Field}
use Rattle.ell_runs.specs.declared.view.View.{View}
use Rattle.ell_runs.specs.Plans.{TablePlan}
use Rattle.ell_cards.specs.Models.{last_slot}
use Rattle.ell_runs.specs.Calls.{May}
use Rattle.ell_runs.specs.States.{TableState}
use Rattle.ell_runs.specs.Turns.{found_by, view_after, state_after}
use Rattle.ell_runs.specs.Starts.{IsReached}
use Rattle.ell_cards.specs.InRuns.{IsKnownInRun}
use Rattle.ell_cards.specs.Shown.{cut_by, shown, shown_call, IsNoClaim}
use Rattle.ell_cards.specs.InSlots.{IsPlaced}
use Rattle.ell_cards.specs.Stepping.{MayTell, IsTaken}
use Rattle.ell_runs.proofs.lemmas.seats.Seats.{set_there}
use Rattle.ell_runs.proofs.lemmas.seats.Named.{kept_named, kept_shallow}
use Rattle.ell_runs.proofs.lemmas.seats.Staying.{keys_stay, same_share}
use Rattle.ell_runs.proofs.lemmas.stepping.AllCalls.{steps_are_events}
use Rattle.ell_cards.proofs.lemmas.shown.ShownViews.{takings_are_shown}
use Rattle.ell_runs.proofs.lemmas.runs.OwnLooks.{looks_read_their_own}
use Rattle.ell_runs.proofs.lemmas.runs.Reaching.{call_on, reached_kept, told_once}

-- what a call that ends a look may tell
abbrev pub TellsKnown : TablePlan → View → ℕ → View → Type 0
TellsKnown plan v n w = IsTaken plan call.Rest v n w × IsKnownInRun plan v

module _ (plan : TablePlan) where
  -- a step call leaves of its pass what it says
  calls_leave : (c : Call) (v : View) → May plan c v → (s : TableState) → IsReached plan s → (id : ℕ) → get_elem? s.views id ≡ some v
      → IsPlaced (last_slot plan) (view_after s v c) → IsTaken plan c v (found_by s c) (view_after s v c)
  calls_leave c v may s h id here placed =
      let n = found_by s c in
      let w = view_after s v c in
      let s' = state_after s id v c in
      let on = call_on plan s h id c v here may in
      let there = set_there s.views id w v here in record {
        view = refl;
        tells = (steps_are_events plan s (reached_kept plan s h) id v c here may).tells;
        own = (looks_read_their_own plan s' on id w there).0;
        missed = (looks_read_their_own plan s' on id w there).1;
        fixed = told_once plan s' on id w there;
        keys = keys_stay c n v;
        share = same_share c n v;
        named = kept_named plan s' (reached_kept plan s' on) id w there;
        inside = placed;
        shallow = kept_shallow plan s' (reached_kept plan s' on) id w there;
      }

  -- a call that claims no card is not shown as one that does
  plain_whole : (c : Call) → IsNoClaim (shown_call c) → IsNoClaim c
  plain_whole (call.Claim c node_key) plain = plain
  plain_whole _ plain = tt

  -- so it is of what is shown of its pass
  pub calls_tell : (c : Call) (v : View) → IsNoClaim c → MayTell plan c v (IsTaken plan c v)
  calls_tell c v plain s h id w here is apart whole same may can placed later =
      let n = found_by s whole in
      let now = view_after s w whole in
      subst (λ (d : Call). IsTaken plan d v (cut_by whole n) (shown now)) same
      (subst (λ (u : View). IsTaken plan (shown_call whole) u (cut_by whole n) (shown now)) is
      (takings_are_shown plan whole w n now (plain_whole whole (subst IsNoClaim (sym same) plain)) apart later may can (calls_leave whole w may s h id here placed)))

  -- the call that ends a look tells that turns have led to what the pass knew before
  pub tells_known : (v : View) → MayTell plan call.Rest v (TellsKnown plan v)
  tells_known v s h id w here is apart whole same may can placed later = (
    calls_tell call.Rest v tt s h id w here is apart whole same may can placed later,
    record { state = s; reached = h; seat = id; knows = w; there = here; shows = is; apart = apart },
  )

  -- a fill tells nothing of what it found
  pub fill_tells : (c : ℕ) (f : Field) (value : ℕ) (v : View)
      → MayTell plan (call.Fill c f value) v (λ n. IsTaken plan (call.Fill c f value) v value)
  fill_tells c f value v s h id w here is apart whole same may can placed later =
      let t = calls_tell (call.Fill c f value) v tt s h id w here is apart whole same may can placed later in record {
        view = t.view;
        tells = tt;
        own = t.own;
        missed = t.missed;
        fixed = t.fixed;
        keys = t.keys;
        share = t.share;
        named = t.named;
        inside = t.inside;
        shallow = t.shallow;
      }
