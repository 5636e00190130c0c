-- Memory refines its tree still where a pass comes to know something else of epochs, and the words of slots say of the
-- same cards that they lie there. More may be dead then; and for a pass that is pinned by that, what was dead when it
-- was pinned is what is dead now.
use Rattle.std.proofs.Common.{◌≡◌, ◌≢◌, ◌⊎◌, ◌<◌, ℕ, inl, inr, Bool, false, Some, List, get_or, set, sym, ap, ◌∙◌, subst, ⊎_elim, arith}
use mathlib.Core.Option.{some}
use mathlib.Core.Option.{Option as Maybe}
use lib.ListN.{get_elem?}
use Rattle.atomic_table.proofs.Lists.{at_set}
use Rattle.ell_layout.specs.declared.field.Field.{Field}
use Rattle.ell_layout.specs.Layout.{address, table_size}
use Rattle.ell_layout.proofs.lemmas.Listed.{address_in_table}
use Rattle.ell_core.specs.history.Stages.{Stages}
use Rattle.ell_cards.specs.declared.view.Known.{Known}
use Rattle.ell_cards.specs.declared.view.Participant.{Participant}
use Rattle.ell_runs.specs.declared.view.Sight.{Sight}
use Rattle.ell_runs.specs.declared.view.Slots.{Slots}
use Rattle.ell_cards.specs.Epochs.{WholeState}
use Rattle.ell_runs.specs.States.{TableState}
use Rattle.ell_runs.specs.Holding.{HoldsWaiting}
use Rattle.ell_cards.specs.Refinement.{LiesThere, HasWon, HasStored, IsKept, Refines}
use Rattle.ell_cards.specs.RefinementLaws.{EpochsKeepRefinement}
use Rattle.ell_cards.specs.Refinement.IsKept.{won, stored}

-- what is kept where a pass knows something else of epochs was kept before
pub kept_of_participant : (stage : Stages) (views : List Known) (id : ℕ) (k : Known) → get_elem? views id ≡ some k → (g : Sight) (p : Participant) (c : ℕ) (f : Field)
    → IsKept stage (set views id (record k { participant = p; sight = g })) c f → IsKept stage views c f
kept_of_participant stage views id k here g p c f (won has said) = won has said
kept_of_participant stage views id k here g p c f (stored seat u at waits has) =
    let now : Known = record k { participant = p; sight = g } in
    ⊎_elim
    (λ (e : (seat ≡ id) × (now ≡ u)). stored id k here (subst (λ (x : Known). HoldsWaiting x.tree c) (sym e.1) waits) (subst (λ (x : Known). HasStored x.tree f) (sym e.1) has))
    (λ (e : (seat ≢ id) × (get_elem? views seat ≡ some u)). stored seat u e.1 waits has)
    (at_set views id seat now u at)

module _ (s : Slots) (tree : TableState) (t : WholeState) (stage : Stages) (lie : ℕ → ℕ) (dead dead' : ℕ → Bool) (was_dead was_dead' : ℕ → ℕ → Bool)
    (refines : Refines s tree t stage lie dead was_dead) (id : ℕ) (k : Known) (here : get_elem? t.views id ≡ some k) (g : Sight) (p : Participant) (taken : p.slot ≡ k.participant.slot) (words : List ℕ)
    (slots : (i : ℕ) → i < table_size s.last → get_or words i 0 ≡ get_or t.words i 0)
    (less : (c : ℕ) → dead' c ≡ false → dead c ≡ false)
    (mine : (q a : ℕ) → p.announcement ≡ Some q → p.announced ≡ Some a
    → ((k.participant.announcement ≡ Some q) × (k.participant.announced ≡ Some a) × ((c : ℕ) → was_dead' q c ≡ false → was_dead q c ≡ false))
    ⊎ ((c : ℕ) → was_dead' q c ≡ false → dead c ≡ false))
    (others : (seat q a : ℕ) (u : Known) → seat ≢ id → get_elem? t.views seat ≡ some u → u.participant.announcement ≡ Some q → u.participant.announced ≡ Some a
    → (c : ℕ) → was_dead' q c ≡ false → was_dead q c ≡ false) where
  abbrev now : Known
  now = record k { participant = p; sight = g }

  lives_on : (q a c : ℕ) → p.announcement ≡ Some q → p.announced ≡ Some a → HasWon stage c → was_dead' q c ≡ false → LiesThere s lie c
  lives_on q a c placed an has alive = elim (mine q a placed an) [
    | inl old ↦ refines.lives id q a c k here old.0 old.1 has (old.2 c alive)
    | inr begins ↦ refines.alive c has (begins c alive)
  ]

  pub refinement_of_participant : (homes : List (Maybe (Unit {0}))) → Refines s tree (record { words = words; homes = homes; views = set t.views id now }) stage lie dead' was_dead'
  refinement_of_participant homes = record {
    claim = slots 0 (omega arith) ∙ refines.claim;
    flat = slots 1 (omega arith) ∙ refines.flat;
    root = refines.root;
    own = refines.own;
    at = λ slot f inside kept.
        slots (address slot f) (address_in_table s.last slot f inside).1 ∙ refines.at slot f inside (kept_of_participant stage t.views id k here g p (lie slot) f kept);
    alive = λ c has lives. refines.alive c has (less c lives);
    lives = λ seat q a c u at placed an has alive. ⊎_elim
        (λ (e : (seat ≡ id) × (now ≡ u)). lives_on q a c (ap (λ (x : Known). x.participant.announcement) e.1 ∙ placed) (ap (λ (x : Known). x.participant.announced) e.1 ∙ an) has alive)
        (λ (e : (seat ≢ id) × (get_elem? t.views seat ≡ some u)). refines.lives seat q a c u e.1 placed an has (others seat q a u e.0 e.1 placed an c alive))
        (at_set t.views id seat now u at);
    fits = refines.fits;
    hand = λ seat c u at slot waits. ⊎_elim
        (λ (e : (seat ≡ id) × (now ≡ u)). refines.hand id c k here (sym taken ∙ (ap (λ (x : Known). x.participant.slot) e.1 ∙ slot)) (subst (λ (x : Known). HoldsWaiting x.tree c) (sym e.1) waits))
        (λ (e : (seat ≢ id) × (get_elem? t.views seat ≡ some u)). refines.hand seat c u e.1 slot waits)
        (at_set t.views id seat now u at);
    slotted = λ seat c u at slot. ⊎_elim
        (λ (e : (seat ≡ id) × (now ≡ u)). refines.slotted id c k here (sym taken ∙ (ap (λ (x : Known). x.participant.slot) e.1 ∙ slot)))
        (λ (e : (seat ≢ id) × (get_elem? t.views seat ≡ some u)). refines.slotted seat c u e.1 slot)
        (at_set t.views id seat now u at);
    past = λ seat c u at slot. subst (λ n. c < n) (sym (slots 0 (omega arith))) (⊎_elim
        (λ (e : (seat ≡ id) × (now ≡ u)). refines.past id c k here (sym taken ∙ (ap (λ (x : Known). x.participant.slot) e.1 ∙ slot)))
        (λ (e : (seat ≢ id) × (get_elem? t.views seat ≡ some u)). refines.past seat c u e.1 slot)
        (at_set t.views id seat now u at));
    stores = λ seat c f u at waits has. ⊎_elim
        (λ (e : (seat ≡ id) × (now ≡ u)). sym (ap (λ (x : Known). x.participant.slot) e.1) ∙ (taken
        ∙ refines.stores id c f k here (subst (λ (x : Known). HoldsWaiting x.tree c) (sym e.1) waits) (subst (λ (x : Known). HasStored x.tree f) (sym e.1) has)))
        (λ (e : (seat ≢ id) × (get_elem? t.views seat ≡ some u)). refines.stores seat c f u e.1 waits has)
        (at_set t.views id seat now u at);
  }

pub epochs_keep_refinement : EpochsKeepRefinement
epochs_keep_refinement s tree t stage lie dead dead' was_dead was_dead' refines id k here p words goes =
    refinement_of_participant s tree t stage lie dead dead' was_dead was_dead' refines id k here k.sight p goes.taken words goes.cards goes.less goes.mine goes.others t.homes
