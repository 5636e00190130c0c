use Rattle.std.proofs.Common.{◌≡◌, ◌≢◌, ℕ, ◌<◌, ◌≤◌, true, false, [], ◌∷◌, refl, arith}
use Rattle.ell_core.specs.declared.fact.Fact.{Fact}
use Rattle.ell_core.specs.declared.fact.Fact.TheVariants.{IFlagged, IChanged, IOver, DFlagged, Marked, Unmarkable, Cut, DOver, Backed}
use Rattle.ell_core.specs.state.Machine.{Machine}
use Rattle.ell_core.specs.soundness.Holds.{Holds}
use Rattle.ell_core.specs.soundness.UnsoundFacts.{BreaksFacts, with_fact, NoneHolds, not_an_insert, linked_unflagged, never_linked, insert_flag_stands, not_a_delete, mark_of_an_insert, cut_unflagged, passed_unflagged, never_marked, cut_unmarked, never_cut, cut_flag_stands, passed_flag_stands}

-- whoever knows a fact that does not hold makes a state unsound
made_up : (m : Machine) (fact : Fact) → ((with_fact m fact).worker 0).knows fact ≡ true → ¬ Holds m.words fact → BreaksFacts (with_fact m fact)
made_up m fact knows fails = (λ sound. fails (sound 0 fact knows), λ sound. fails (sound.facts 0 fact knows))

true_is_not_false : true ≢ false
true_is_not_false e = cc

false_is_not_true : false ≢ true
false_is_not_true e = cc

-- an insert's flag of card 1 is above what stands
iflag_above : ¬ (4 ≤ 3)
iflag_above h = omega arith

-- a delete's flag of card 2 is above what stands
dflag_above : ¬ (9 ≤ 7)
dflag_above h = omega arith

-- a clean word is not the mark of card 2
clean_is_no_mark : ◌≢◌ {A = ℕ} 3 10
clean_is_no_mark e = omega arith

-- no word is past itself
not_past : (word : ℕ) → ¬ (word < word)
not_past word h = omega arith

-- the card is a delete's
pub insert_card_broken : NoneHolds not_an_insert (IFlagged 1 ∷ IChanged 1 ∷ IOver 1 ∷ [])
insert_card_broken = (
  made_up not_an_insert (IFlagged 1) refl (λ h. true_is_not_false h.0),
  (
    made_up not_an_insert (IChanged 1) refl (λ h. true_is_not_false h.0.0),
    (
      made_up not_an_insert (IOver 1) refl (λ h. true_is_not_false h.0.0.0),
      tt,
    ),
  ),
)

-- the flag was not set
pub insert_flag_broken : NoneHolds linked_unflagged (IFlagged 1 ∷ IChanged 1 ∷ [])
insert_flag_broken = (
  made_up linked_unflagged (IFlagged 1) refl (λ h. iflag_above h.1),
  (
    made_up linked_unflagged (IChanged 1) refl (λ h. iflag_above h.0.1),
    tt,
  ),
)

-- the child is the leaf
pub insert_child_broken : NoneHolds never_linked (IChanged 1 ∷ IOver 1 ∷ [])
insert_child_broken = (
  made_up never_linked (IChanged 1) refl (λ h. h.1 refl),
  (
    made_up never_linked (IOver 1) refl (λ h. h.0.1 refl),
    tt,
  ),
)

-- the flag stands
pub insert_over_broken : NoneHolds insert_flag_stands (IOver 1 ∷ [])
insert_over_broken = (
  made_up insert_flag_stands (IOver 1) refl (λ h. not_past 4 h.1),
  tt,
)

-- the card is an insert's
pub delete_card_broken : NoneHolds not_a_delete (DFlagged 1 ∷ Unmarkable 1 ∷ Backed 1 ∷ [])
delete_card_broken = (
  made_up not_a_delete (DFlagged 1) refl (λ h. false_is_not_true h.0),
  (
    made_up not_a_delete (Unmarkable 1) refl (λ h. false_is_not_true h.0.0),
    (
      made_up not_a_delete (Backed 1) refl (λ h. false_is_not_true h.0.0.0),
      tt,
    ),
  ),
)

-- the card is an insert's
pub marked_card_broken : NoneHolds mark_of_an_insert (Marked 1 ∷ Cut 1 ∷ DOver 1 ∷ [])
marked_card_broken = (
  made_up mark_of_an_insert (Marked 1) refl (λ h. false_is_not_true h.0.0),
  (
    made_up mark_of_an_insert (Cut 1) refl (λ h. false_is_not_true h.0.0.0),
    (
      made_up mark_of_an_insert (DOver 1) refl (λ h. false_is_not_true h.0.0.0.0),
      tt,
    ),
  ),
)

-- the flag was not set
pub delete_flag_broken : NoneHolds cut_unflagged (DFlagged 2 ∷ Marked 2 ∷ Cut 2 ∷ [])
delete_flag_broken = (
  made_up cut_unflagged (DFlagged 2) refl (λ h. dflag_above h.1),
  (
    made_up cut_unflagged (Marked 2) refl (λ h. dflag_above h.0.1),
    (
      made_up cut_unflagged (Cut 2) refl (λ h. dflag_above h.0.0.1),
      tt,
    ),
  ),
)

-- the flag was not set
pub passed_flag_broken : NoneHolds passed_unflagged (Unmarkable 2 ∷ [])
passed_flag_broken = (
  made_up passed_unflagged (Unmarkable 2) refl (λ h. dflag_above h.0.1),
  tt,
)

-- the parent's update word is the one that was read
pub passed_broken : NoneHolds never_marked (Marked 2 ∷ Unmarkable 2 ∷ Backed 2 ∷ [])
passed_broken = (
  made_up never_marked (Marked 2) refl (λ h. clean_is_no_mark h.1),
  (
    made_up never_marked (Unmarkable 2) refl (λ h. not_past 3 h.1),
    (
      made_up never_marked (Backed 2) refl (λ h. not_past 3 h.0.1),
      tt,
    ),
  ),
)

-- there is no mark
pub mark_broken : NoneHolds cut_unmarked (Cut 2 ∷ DOver 2 ∷ [])
mark_broken = (
  made_up cut_unmarked (Cut 2) refl (λ h. clean_is_no_mark h.0.1),
  (
    made_up cut_unmarked (DOver 2) refl (λ h. clean_is_no_mark h.0.0.1),
    tt,
  ),
)

-- the mark stands, and the child is the parent
pub delete_child_broken : NoneHolds never_cut (Unmarkable 2 ∷ Cut 2 ∷ DOver 2 ∷ Backed 2 ∷ [])
delete_child_broken = (
  made_up never_cut (Unmarkable 2) refl (λ h. h.2 refl),
  (
    made_up never_cut (Cut 2) refl (λ h. h.1 refl),
    (
      made_up never_cut (DOver 2) refl (λ h. h.0.1 refl),
      (
        made_up never_cut (Backed 2) refl (λ h. h.0.2 refl),
        tt,
      ),
    ),
  ),
)

-- the flag stands
pub delete_over_broken : NoneHolds cut_flag_stands (DOver 2 ∷ [])
delete_over_broken = (
  made_up cut_flag_stands (DOver 2) refl (λ h. not_past 9 h.1),
  tt,
)

-- the flag stands
pub backed_broken : NoneHolds passed_flag_stands (Backed 2 ∷ [])
backed_broken = (
  made_up passed_flag_stands (Backed 2) refl (λ h. not_past 9 h.1),
  tt,
)
