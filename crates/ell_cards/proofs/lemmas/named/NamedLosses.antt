-- Memory refines its tree still, by names, where a flag is lost: the card is discarded, and its slot stays in the hand,
-- for another name.
use Rattle.std.proofs.Common.{◌≡◌, ℕ, ◌≤◌, inl, inr, Bool, Option, Some, [], refl, sym, ap, ◌∙◌, subst, List}
use Rattle.ell_layout.specs.Words.{put}
use Rattle.ell_core.specs.history.Stages.{Stages}
use Rattle.ell_runs.specs.Views.{stored_at}
use Rattle.ell_cards.specs.NamedRefinement.{Hand, LiesBy, RefinesBy, FlagIsLost, in_memory}
use Rattle.ell_cards.proofs.lemmas.named.NamedHands.{hand_is}
use Rattle.ell_cards.specs.Shown.{cut_field}
use Rattle.ell_cards.specs.SlotWords.{slot_of}
use Rattle.ell_cards.specs.Refinement.{HasWon}

module _ (last : ℕ) (name name' : ℕ → ℕ) (tree tree' memory memory' : List ℕ) (hand : ℕ → Option Hand) (stage stage' : Stages) (lie : ℕ → ℕ) (dead : ℕ → Bool) (pinned : ℕ → Type 0)
    (was_dead : ℕ → ℕ → Bool) (refines : RefinesBy last name tree memory hand stage lie dead pinned was_dead) (id new : ℕ) (h : Hand) (holds : hand id ≡ Some h)
    (lost : FlagIsLost last name name' tree tree' memory memory' stage stage' h new) where
  -- the same slot in hand, for a card of the new name, and nothing stored of it
  abbrev anew : Hand
  anew = record { name = new; stores = [] }

  abbrev hand' : ℕ → Option Hand
  hand' = put hand id (Some anew)

  -- where a card that has won its flag lay it lies
  lies_on : (d : ℕ) → HasWon stage d → LiesBy last name lie d → LiesBy last name' lie d
  lies_on d won lies =
      let same = ap slot_of (lost.others.names d won) in
      (subst (λ x. x ≤ last) (sym same) lies.0, ap lie same ∙ lies.1)

  -- each hand is of a slot of which there was one
  was : (seat : ℕ) (g : Hand) → hand' seat ≡ Some g → (v : Hand) × (hand seat ≡ Some v) × (slot_of v.name ≡ slot_of g.name)
  was seat g is = elim (hand_is hand id anew seat g is) [
    | inl e ↦ (h, ap hand e.0 ∙ holds, sym lost.same ∙ ap (λ (y : Hand). slot_of y.name) e.1)
    | inr e ↦ (g, e.1, refl)
  ]

  -- so memory refines its tree
  pub loss_keeps_refinement : RefinesBy last name' tree' memory' hand' stage' lie dead pinned was_dead
  loss_keeps_refinement = record {
    flat = lost.flat' ∙ (refines.flat ∙ sym lost.flat);
    root = refines.root;
    each = λ other below. elim (refines.each other below) [ inl won ↦ inl (lost.others.later (lie other) won) | inr none ↦ inr none ];
    own = λ other below won.
        let had = lost.wins (lie other) won in ap slot_of (lost.others.names (lie other) had) ∙ refines.own other below had;
    at = λ other f below won said.
        let had = lost.wins (lie other) won in
        let says = lost.others.kinds (lie other) f had said in
        lost.stays' other f below
        ∙ (refines.at other f below had says
        ∙ (ap (cut_field f) (sym (lost.others.words (lie other) f had says)) ∙ ap (in_memory name' f) (sym (lost.stays (lie other) f had))));
    alive = λ d won lives. let had = lost.wins d won in lies_on d had (refines.alive d had lives);
    lives = λ q d pin won lives. let had = lost.wins d won in lies_on d had (refines.lives q d pin had lives);
    fits = λ d won. let had = lost.wins d won in subst (λ x. x ≤ last) (sym (ap slot_of (lost.others.names d had))) (refines.fits d had);
    held = λ seat g is.
        let old = was seat g is in
        let held = refines.held seat old.0 old.1 in
        subst (λ x. (x ≤ last) × (¬ HasWon stage' (lie x))) old.2 (held.0, λ won. held.1 (lost.wins (lie (slot_of old.0.name)) won));
    filled = λ seat g f x is has some. elim (hand_is hand id anew seat g is) [
      | inl e ↦ absurd (some (sym has ∙ ap (λ (y : Hand). stored_at y.stores f) (sym e.1)))
      | inr e ↦ lost.stays' (slot_of g.name) f (refines.held seat g e.1).0 ∙ refines.filled seat g f x e.1 has some
    ];
    single = λ seat other g g' is is' same.
        let old = was seat g is in
        let old' = was other g' is' in
        refines.single seat other old.0 old'.0 old.1 old'.1 (old.2 ∙ (same ∙ sym old'.2));
  }
