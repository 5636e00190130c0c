-- Each pass of a table tells the nodes that it has met apart by what child words hold of their numbers.
use Rattle.std.proofs.Common.{◌≡◌, ℕ, inl, inr, Option, Some, None, refl, sym, ap, ◌∙◌, subst}
use mathlib.Core.Option.{some}
use lib.ListN.{get_elem?}
use Rattle.ell_core.proofs.lemmas.outcomes.Decide.{some_not_none}
use Rattle.ell_cards.specs.declared.view.Known.{Known}
use Rattle.ell_runs.specs.declared.view.Slots.{Slots}
use Rattle.ell_cards.specs.Ages.{HasEpochs}
use Rattle.ell_cards.specs.Apart.{IsApart, IsToldApart}
use Rattle.ell_runs.specs.Plans.{TablePlan}
use Rattle.ell_cards.specs.Epochs.{WholeState}
use Rattle.ell_runs.specs.States.{TableState}
use Rattle.ell_cards.specs.RefinementLaws.{child_now, ChildrenAreApart, PassesTellApart}
use Rattle.ell_cards.specs.Whole.{EpochsAre, IsWhole}
use Rattle.ell_cards.proofs.lemmas.refinement.Apart.{tells_apart, tells_apart_plain}
use Rattle.ell_cards.proofs.lemmas.refinement.Found.{child_apart, child_apart_plain}
use Rattle.ell_cards.proofs.lemmas.refinement.Touched.{IsReady}
use Rattle.ell_cards.proofs.lemmas.whole.Trees.{tree_at}

-- where the epochs of a table are sound, each pass is ready
pub ready_there : (plan : TablePlan) (s : Slots) (tree : TableState) (t : WholeState) (h : HasEpochs plan s tree t) (id : ℕ) (k : Known)
    → get_elem? t.views id ≡ some k → IsReady plan tree id k h.was_dead
ready_there plan s tree t h id k here = by k.participant.announced refl
  where
    by_announcement : (a : ℕ) → k.participant.announced ≡ Some a → (o : Option ℕ) → k.participant.announcement ≡ o → IsReady plan tree id k h.was_dead
    by_announcement a says None none = absurd (some_not_none says ((h.epochs.each id k here).none none))
    by_announcement a says (Some q) at = elim (h.ages.since id q a k here at says) [
      | inl rest ↦ inl rest
      | inr forgot ↦ inr (q, a, at, says, forgot)
    ]

    by : (o : Option ℕ) → k.participant.announced ≡ o → IsReady plan tree id k h.was_dead
    by None none = inl ((h.epochs.each id k here).rests none)
    by (Some a) says = by_announcement a says k.participant.announcement refl

seat_there : (plan : TablePlan) (t : WholeState) (h : IsWhole plan t) (id : ℕ) (k : Known) → get_elem? t.views id ≡ some k
    → get_elem? h.tree.views id ≡ some k.tree
seat_there plan t h id k here = ap (λ l. get_elem? l id) (sym h.views) ∙ tree_at t.views id k here

pub passes_tell_apart : PassesTellApart
passes_tell_apart plan t h id k here = by plan.slots refl
  where
    there : get_elem? h.tree.views id ≡ some k.tree
    there = seat_there plan t h id k here

    by : (o : Option Slots) → plan.slots ≡ o → IsApart plan k.tree
    by None none = tells_apart_plain plan none h.tree h.reached id k.tree there
    by (Some s) placed =
        let has = (subst (λ o. EpochsAre plan o h.tree t) placed h.epochs).0 in
        tells_apart plan s h.tree t has.ages.now.machine has.lie has.dead has.was_dead has.refines placed h.reached id k here there
        (ready_there plan s h.tree t has id k here)

-- and it would tell each node from them that is a child of one
pub children_are_apart : ChildrenAreApart
children_are_apart plan t h id k here x inner met right = by plan.slots refl
  where
    there : get_elem? h.tree.views id ≡ some k.tree
    there = seat_there plan t h id k here

    by : (o : Option Slots) → plan.slots ≡ o → IsToldApart plan k.tree (child_now h.tree x right)
    by None none = child_apart_plain plan none h.tree h.reached id k.tree there x right inner met
    by (Some s) placed =
        let has = (subst (λ o. EpochsAre plan o h.tree t) placed h.epochs).0 in
        child_apart plan s h.tree t has.ages.now.machine has.lie has.dead has.was_dead has.refines has.ages.now id k here there
        (ready_there plan s h.tree t has id k here) x right inner met placed h.reached
