-- The turns of a flag are turns of the tree, in a row: the claim word is read, and whatever card is the next one is claimed, filled and flagged.
use Rattle.std.proofs.Common.{◌≡◌, ℕ, ◌≤◌, List, [], ◌∷◌, refl, ap, ◌∙◌, arith, eq-eqb, get_or-set_same}
use mathlib.Core.Option.{some}
use lib.ListN.{get_elem?}
use Rattle.ell_layout.specs.declared.field.Field.{Field}
use Rattle.ell_runs.specs.declared.call.Call.{Call}
use Rattle.ell_runs.specs.declared.call.Call.TheVariants as call
use Rattle.ell_runs.specs.declared.call.NewNode.{NewNode}
use Rattle.ell_runs.specs.declared.view.View.{View}
use Rattle.ell_runs.specs.Calls.{May, after}
use Rattle.ell_runs.specs.Changes.{after_claim}
use Rattle.ell_runs.specs.NamedTakings.{MayTakeCard, claimed_and_filled}
use Rattle.ell_runs.specs.Plans.{TablePlan, flat_from}
use Rattle.ell_runs.specs.Starts.{IsReached}
use Rattle.ell_runs.specs.States.{TableState}
use Rattle.ell_runs.specs.Turns.{found_by, state_after, view_after}
use Rattle.ell_runs.proofs.lemmas.named.NamedGuards.{claim_may}
use Rattle.ell_runs.proofs.lemmas.runs.Reaching.{call_on, reached_kept}
use Rattle.ell_runs.proofs.lemmas.seats.Seats.{set_there}

-- turns have led a table here, and a pass in a seat knows this
pub record IsReachedWith (plan : TablePlan) (id : ℕ) (tree : TableState) (v : View) : Type 0 where
  pub reached : IsReached plan tree
  pub there : get_elem? tree.views id ≡ some v

module _ (plan : TablePlan) (id : ℕ) where
  -- so it is after a call
  call_reached : (tree : TableState) (v : View) → IsReachedWith plan id tree v → (c : Call) → May plan c v
      → IsReachedWith plan id (state_after tree id v c) (view_after tree v c)
  call_reached tree v h c may = record {
    reached = call_on plan tree h.reached id c v h.there may;
    there = set_there tree.views id (view_after tree v c) v h.there;
  }

  module _ (tree : TableState) (v : View) (h : IsReachedWith plan id tree v) (node : NewNode) (may : MayTakeCard (flat_from plan) v node) where
    -- the next card
    abbrev next : ℕ
    next = found_by tree call.Next

    -- the table once the claim word was read, and once that card was claimed
    abbrev read : TableState
    read = state_after tree id v call.Next

    abbrev claimed : TableState
    claimed = state_after read id (after call.Next next v) (call.Claim next node)

    -- and once these words were stored, the last one last
    abbrev filled : List (Field × ℕ) → TableState
    filled [] = claimed
    filled (e ∷ es) = state_after (filled es) id (claimed_and_filled next node es v) (call.Fill next e.0 e.1)

    -- the claim word is still that one
    still : found_by read (call.Claim next node) ≡ next
    still = get_or-set_same tree.words 0 next 0 (let size = (reached_kept plan tree h.reached).size in omega arith)

    -- the card is in hand
    claim_reached : next ≤ plan.last_card → IsReachedWith plan id claimed (claimed_and_filled next node [] v)
    claim_reached room =
        let at = call_reached tree v h call.Next tt in
        let on = call_reached read (after call.Next next v) at (call.Claim next node) (claim_may (flat_from plan) v next node may, room) in record {
          reached = on.reached;
          there = on.there ∙ ap (λ b. some (after_claim b next node (after call.Next next v))) (eq-eqb (found_by read (call.Claim next node)) next still);
        }

    -- and filled
    fills_reached : next ≤ plan.last_card → (es : List (Field × ℕ)) → IsReachedWith plan id (filled es) (claimed_and_filled next node es v)
    fills_reached room [] = claim_reached room
    fills_reached room (e ∷ es) =
        call_reached (filled es) (claimed_and_filled next node es v) (fills_reached room es) (call.Fill next e.0 e.1)
        (record { holds = refl; unflagged = refl })

    -- and it is flagged, or whatever else the pass may do then
    pub flag_reached : next ≤ plan.last_card → (stores : List (Field × ℕ)) (flag : Call) → May plan flag (claimed_and_filled next node stores v)
        → IsReachedWith plan id (state_after (filled stores) id (claimed_and_filled next node stores v) flag)
        (view_after (filled stores) (claimed_and_filled next node stores v) flag)
    flag_reached room stores flag may_flag =
        call_reached (filled stores) (claimed_and_filled next node stores v) (fills_reached room stores) flag may_flag
