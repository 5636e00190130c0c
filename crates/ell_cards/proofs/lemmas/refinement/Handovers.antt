-- Splits and joins keep memory a refinement of its tree.
use Rattle.std.proofs.Common.{◌≡◌, ◌≢◌, ℕ, ◌<◌, Bool, Some, List, [], ◌∷◌, ◌++◌, set, inl, inr, refl, ap, ◌∙◌, subst, ⊎_elim}
use Rattle.ell_word.specs.Node.{generation_size}
use mathlib.Core.Option.{some}
use lib.ListN.{get_elem?}
use Rattle.atomic_table.proofs.Lists.{at_set}
use Rattle.ell_cards.specs.declared.view.Known.{Known}
use Rattle.ell_core.proofs.lemmas.outcomes.Decide.{some_not_none}
use Rattle.ell_runs.specs.declared.view.Slots.{Slots}
use Rattle.ell_runs.specs.Changes.{left_view, right_view, joined_view, spent_view}
use Rattle.ell_runs.specs.Plans.{TablePlan}
use Rattle.ell_runs.specs.Views.{IsFree, MayPart}
use Rattle.ell_cards.specs.Epochs.{WholeState}
use Rattle.ell_runs.specs.States.{TableState}
use Rattle.ell_cards.specs.Refinement.{Refines}
use Rattle.ell_cards.specs.RefinementLaws.{RefinesByAges, left_known, right_known, SplitsKeepRefinement, JoinsKeepRefinement}
use Rattle.ell_runs.specs.Turns.{Turn, TableTurns, Splits, Joins, state_split, state_joined}
use Rattle.ell_cards.specs.Whole.{joined_known, spent_known}
use Rattle.ell_cards.proofs.lemmas.whole.Ages.{AgesOn}
use Rattle.ell_cards.proofs.lemmas.whole.Handovers.{at_end, ages_after_split, ages_after_join}
use Rattle.ell_cards.proofs.lemmas.whole.Rests.{is_at_rest}
use Rattle.ell_cards.proofs.lemmas.whole.Retired.{HadInHand}
use Rattle.ell_cards.proofs.lemmas.refinement.Winning.{won_before, says_before}
use Rattle.ell_cards.proofs.lemmas.refinement.Views.{StaysSo, same, idle, blank, refinement_stays}

-- the ages after a turn, with memory that refines the tree
pub record RefinesOn (plan : TablePlan) (s : Slots) (tree : TableState) (t : WholeState) (lie : ℕ → ℕ) (dead : ℕ → Bool) (was_dead : ℕ → ℕ → Bool)
    (h : RefinesByAges plan s tree t lie dead was_dead) (turn : Turn) (tree' : TableState) (t' : WholeState) : Type 0 where
  pub on : AgesOn plan s tree t lie dead was_dead h.ages turn tree' t'
  pub refines : Refines s tree' t' on.ages.now.machine.stages lie dead was_dead

pub split_goes : (plan : TablePlan) (s : Slots) (tree : TableState) (t : WholeState) (lie : ℕ → ℕ) (dead : ℕ → Bool) (was_dead : ℕ → ℕ → Bool) → s.last < generation_size
    → (h : RefinesByAges plan s tree t lie dead was_dead) (id : ℕ) (k : Known) → get_elem? t.views id ≡ some k → get_elem? tree.views id ≡ some k.tree
    → (keys : List ℕ) → IsFree k.tree → MayPart k.tree
    → RefinesOn plan s tree t lie dead was_dead h (Splits id keys) (state_split tree id k.tree keys)
    (record { words = t.words; homes = t.homes; views = set t.views id (left_known keys k) ++ right_known keys k ∷ [] })
split_goes plan s tree t lie dead was_dead low h id k here there keys free may = record { on = on; refines = refines }
  where
    left : Known
    left = left_known keys k

    right : Known
    right = right_known keys k

    turn : TableTurns plan tree (Splits id keys) (state_split tree id k.tree keys)
    turn = record { view = k.tree; there = there; free = free; may = may; gives = refl }

    on : AgesOn plan s tree t lie dead was_dead h.ages (Splits id keys) (state_split tree id k.tree keys)
        (record { words = t.words; homes = t.homes; views = set t.views id left ++ right ∷ [] })
    on = ages_after_split plan s tree (state_split tree id k.tree keys) t id k here keys turn left right
        (is_at_rest (left_view keys k.tree) refl refl refl refl refl) (is_at_rest (right_view keys k.tree) refl refl refl refl refl) refl refl refl refl lie dead was_dead h.ages

    stays : (seat : ℕ) (u : Known) → get_elem? (set t.views id left ++ right ∷ []) seat ≡ some u → StaysSo t.views seat u
    stays seat u at = elim (at_end (set t.views id left) right u seat at) [
      | inl was ↦ ⊎_elim
          (λ (e : (seat ≡ id) × (left ≡ u)). subst (StaysSo t.views seat) e.1 (idle refl id k here refl refl refl))
          (λ (e : (seat ≢ id) × (get_elem? t.views seat ≡ some u)). same e.1)
          (at_set t.views id seat left u was)
      | inr new ↦ subst (StaysSo t.views seat) new.1 (blank refl refl refl)
    ]

    refines : Refines s (state_split tree id k.tree keys) (record { words = t.words; homes = t.homes; views = set t.views id left ++ right ∷ [] }) on.ages.now.machine.stages lie dead was_dead
    refines = refinement_stays s low tree (state_split tree id k.tree keys) t h.ages.now.machine.stages on.ages.now.machine.stages lie dead was_dead h.refines refl t.words
        (λ i inside. refl) (λ c. won_before h.ages.now.machine.stages on.ages.now.machine.stages on.later c (on.wins c)) (λ c. says_before h.ages.now.machine.stages on.ages.now.machine.stages on.later c)
        (set t.views id left ++ right ∷ []) stays t.homes

pub splits_keep_refinement : SplitsKeepRefinement
splits_keep_refinement plan s tree t lie dead was_dead low h id k here there keys free may =
    let it = split_goes plan s tree t lie dead was_dead low h id k here there keys free may in record { ages = it.on.ages; refines = it.refines }

pub join_goes : (plan : TablePlan) (s : Slots) (tree : TableState) (t : WholeState) (lie : ℕ → ℕ) (dead : ℕ → Bool) (was_dead : ℕ → ℕ → Bool) → s.last < generation_size
    → (h : RefinesByAges plan s tree t lie dead was_dead) (id other : ℕ) (k l : Known) → get_elem? t.views id ≡ some k → get_elem? t.views other ≡ some l
    → get_elem? tree.views id ≡ some k.tree → get_elem? tree.views other ≡ some l.tree → id ≢ other → IsFree k.tree → IsFree l.tree
    → RefinesOn plan s tree t lie dead was_dead h (Joins id other) (state_joined tree id other k.tree l.tree)
    (record { words = t.words; homes = t.homes; views = set (set t.views id (joined_known k l)) other spent_known })
join_goes plan s tree t lie dead was_dead low h id other k l here here' there there' apart free free' = record { on = on; refines = refines }
  where
    both : Known
    both = joined_known k l

    after : TableState
    after = state_joined tree id other k.tree l.tree

    views : List Known
    views = set (set t.views id both) other spent_known

    turn : TableTurns plan tree (Joins id other) after
    turn = record { view = k.tree; view' = l.tree; there = there; there' = there'; apart = apart; free = free; free' = free'; gives = refl }

    on : AgesOn plan s tree t lie dead was_dead h.ages (Joins id other) after (record { words = t.words; homes = t.homes; views = views })
    on = ages_after_join plan s tree after t id other k here turn both spent_known
        (is_at_rest (joined_view k.tree l.tree) refl refl refl refl refl) (is_at_rest spent_view refl refl refl refl refl) refl refl refl refl lie dead was_dead h.ages

    stays : (seat : ℕ) (u : Known) → get_elem? views seat ≡ some u → StaysSo t.views seat u
    stays seat u at = ⊎_elim
        (λ (e : (seat ≡ other) × (spent_known ≡ u)). subst (StaysSo t.views seat) e.1 (blank refl refl refl))
        (λ (e : (seat ≢ other) × (get_elem? (set t.views id both) seat ≡ some u)). ⊎_elim
        (λ (f : (seat ≡ id) × (both ≡ u)). subst (StaysSo t.views seat) f.1 (idle refl id k here refl refl refl))
        (λ (f : (seat ≢ id) × (get_elem? t.views seat ≡ some u)). same f.1)
        (at_set t.views id seat both u e.1))
        (at_set (set t.views id both) other seat spent_known u at)

    refines : Refines s after (record { words = t.words; homes = t.homes; views = views }) on.ages.now.machine.stages lie dead was_dead
    refines = refinement_stays s low tree after t h.ages.now.machine.stages on.ages.now.machine.stages lie dead was_dead h.refines refl t.words
        (λ i inside. refl) (λ c. won_before h.ages.now.machine.stages on.ages.now.machine.stages on.later c (on.wins c)) (λ c. says_before h.ages.now.machine.stages on.ages.now.machine.stages on.later c) views stays t.homes

pub joins_keep_refinement : JoinsKeepRefinement
joins_keep_refinement plan s tree t lie dead was_dead low h id other k l here here' there there' apart free free' =
    let it = join_goes plan s tree t lie dead was_dead low h id other k l here here' there there' apart free free' in record { ages = it.on.ages; refines = it.refines }

-- the parts of a split have no card in hand, nor has a pass that was joined to another one: each card in hand was there before
pub split_held : (t : WholeState) (id : ℕ) (k : Known) (keys : List ℕ) (seat c : ℕ) (u : Known)
    → get_elem? (set t.views id (left_known keys k) ++ right_known keys k ∷ []) seat ≡ some u → u.participant.slot ≡ Some c → u.tree.worker.card ≡ Some c
    → HadInHand t.views c u.participant.retired
split_held t id k keys seat c u at slot hand = elim (at_end (set t.views id (left_known keys k)) (right_known keys k) u seat at) [
  | inl was ↦ ⊎_elim
      (λ (e : (seat ≡ id) × (left_known keys k ≡ u)). absurd (some_not_none (ap (λ (x : Known). x.tree.worker.card) e.1 ∙ hand) refl))
      (λ (e : (seat ≢ id) × (get_elem? t.views seat ≡ some u)). record { seat = seat; knows = u; there = e.1; slot = slot; hand = hand; retired = refl })
      (at_set t.views id seat (left_known keys k) u was)
  | inr new ↦ absurd (some_not_none (ap (λ (x : Known). x.tree.worker.card) new.1 ∙ hand) refl)
]

pub join_held : (t : WholeState) (id other : ℕ) (k l : Known) (seat c : ℕ) (u : Known)
    → get_elem? (set (set t.views id (joined_known k l)) other spent_known) seat ≡ some u → u.participant.slot ≡ Some c → u.tree.worker.card ≡ Some c
    → HadInHand t.views c u.participant.retired
join_held t id other k l seat c u at slot hand = ⊎_elim
    (λ (e : (seat ≡ other) × (spent_known ≡ u)). absurd (some_not_none (ap (λ (x : Known). x.tree.worker.card) e.1 ∙ hand) refl))
    (λ (e : (seat ≢ other) × (get_elem? (set t.views id (joined_known k l)) seat ≡ some u)). ⊎_elim
    (λ (f : (seat ≡ id) × (joined_known k l ≡ u)). absurd (some_not_none (ap (λ (x : Known). x.tree.worker.card) f.1 ∙ hand) refl))
    (λ (f : (seat ≢ id) × (get_elem? t.views seat ≡ some u)). record { seat = seat; knows = u; there = f.1; slot = slot; hand = hand; retired = refl })
    (at_set t.views id seat (joined_known k l) u e.1))
    (at_set (set t.views id (joined_known k l)) other seat spent_known u at)
