-- Memory refines its tree still, by names, where a pass takes a slot, and where it stores a word there.
use Rattle.std.proofs.Common.{◌≡◌, ◌≢◌, ℕ, ◌≤◌, ◌==◌, if◌then◌else◌, inl, inr, Bool, true, false, Option, Some, [], ◌∷◌, get_or, refl, sym, ap, ◌∙◌, subst, true≢false, eqb-true, eq-eqb, arith, List}
use Rattle.std.proofs.lemmas.Bool.{cases_eq}
use Rattle.ell_layout.specs.declared.field.Field.{Field}
use Rattle.ell_layout.specs.Layout.{address, place}
use Rattle.ell_layout.specs.Words.{put}
use Rattle.ell_layout.proofs.lemmas.Writes.{put_same, put_other}
use Rattle.ell_layout.proofs.lemmas.Listed.{addresses_apart}
use Rattle.ell_core.specs.history.Stages.{Stages}
use Rattle.ell_runs.specs.Views.{stored_at}
use Rattle.ell_cards.specs.NamedRefinement.{Hand, LiesBy, RefinesBy, SlotIsTaken, HandIsFilled, in_memory, nobody}
use Rattle.ell_runs.specs.Sayings.{says}
use Rattle.ell_cards.proofs.lemmas.named.NamedHands.{hand_is}
use Rattle.ell_cards.specs.Shown.{cut_field}
use Rattle.ell_cards.specs.SlotWords.{slot_of}
use Rattle.ell_cards.specs.Refinement.{HasWon}

module _ (last : ℕ) (name : ℕ → ℕ) (tree memory memory' : List ℕ) (hand : ℕ → Option Hand) (stage : Stages) (lie : ℕ → ℕ) (dead : ℕ → Bool) (pinned : ℕ → Type 0)
    (was_dead : ℕ → ℕ → Bool) (refines : RefinesBy last name tree memory hand stage lie dead pinned was_dead) (id : ℕ) where
  -- a slot is taken
  module _ (new : ℕ) (takes : SlotIsTaken last memory memory' hand stage lie dead pinned was_dead id new) where
    -- the slot, which is in the hand from now on, and where nobody lies
    abbrev slot : ℕ
    slot = slot_of new

    abbrev taken : Hand
    taken = record { name = new; stores = [] }

    abbrev lie' : ℕ → ℕ
    lie' = put lie slot nobody

    abbrev hand' : ℕ → Option Hand
    hand' = put hand id (Some taken)

    -- nobody lies there, and in each other slot what lay there
    empty_now : lie' slot ≡ nobody
    empty_now = put_same lie slot nobody

    card_else : (other : ℕ) → other ≢ slot → lie' other ≡ lie other
    card_else other apart = put_other lie slot nobody other apart

    -- a card that won its flag lies in another slot
    elsewhere : (other : ℕ) → HasWon stage (lie' other) → other ≢ slot
    elsewhere other won e = takes.none (subst (HasWon stage) (ap lie' e ∙ empty_now) won)

    -- a card that won its flag lies where it lay, if it lay in another slot
    lies_on : (d : ℕ) → HasWon stage d → (d ≢ lie slot) → LiesBy last name lie d → LiesBy last name lie' d
    lies_on d won other lies = (lies.0, card_else (slot_of (name d)) (λ e. other (sym lies.1 ∙ ap lie e)) ∙ lies.1)

    -- as it did if it is not dead
    alive_not : (d : ℕ) → HasWon stage d → dead d ≡ false → d ≢ lie slot
    alive_not d won lives e = true≢false (sym (takes.gone (subst (HasWon stage) e won)) ∙ (ap dead (sym e) ∙ lives))

    -- so memory refines its tree
    pub take_keeps_refinement : RefinesBy last name tree memory' hand' stage lie' dead pinned was_dead
    take_keeps_refinement = record {
      flat = takes.flat ∙ refines.flat;
      root = card_else 0 (λ e. alive_not 0 takes.start takes.root (sym refines.root ∙ ap lie e)) ∙ refines.root;
      each = λ other below. elim (cases_eq other slot) [
        | inl e ↦ inr (ap lie' e ∙ empty_now)
        | inr apart ↦ elim (refines.each other below) [
          | inl won ↦ inl (subst (HasWon stage) (sym (card_else other apart)) won)
          | inr none ↦ inr (card_else other apart ∙ none)
        ]
      ];
      own = λ other below won.
          let is = card_else other (elsewhere other won) in
          ap (λ x. slot_of (name x)) is ∙ refines.own other below (subst (HasWon stage) is won);
      at = λ other f below won said.
          let is = card_else other (elsewhere other won) in
          takes.stays other f below
          ∙ (refines.at other f below (subst (HasWon stage) is won) (subst (λ y. says (stage y) f ≡ true) is said)
          ∙ ap (λ y. in_memory name f (get_or tree (address y f) 0)) (sym is));
      alive = λ d won lives. lies_on d won (alive_not d won lives) (refines.alive d won lives);
      lives = λ q d pin won lives.
          lies_on d won (λ e. true≢false (sym (takes.was_gone q pin (subst (HasWon stage) e won)) ∙ (ap (was_dead q) (sym e) ∙ lives)))
          (refines.lives q d pin won lives);
      fits = refines.fits;
      held = λ seat g is. elim (hand_is hand id taken seat g is) [
        | inl e ↦ subst (λ (x : Hand). (slot_of x.name ≤ last) × (¬ HasWon stage (lie' (slot_of x.name)))) e.1
            (takes.inside, λ won. takes.none (subst (HasWon stage) empty_now won))
        | inr e ↦
            let old = refines.held seat g e.1 in
            let is' = card_else (slot_of g.name) (takes.free seat g e.1) in
            (old.0, λ won. old.1 (subst (HasWon stage) is' won))
      ];
      filled = λ seat g f x is has some. elim (hand_is hand id taken seat g is) [
        | inl e ↦ absurd (some (sym has ∙ ap (λ (y : Hand). stored_at y.stores f) (sym e.1)))
        | inr e ↦ takes.stays (slot_of g.name) f (refines.held seat g e.1).0 ∙ refines.filled seat g f x e.1 has some
      ];
      single = λ seat other g g' is is' same. elim (hand_is hand id taken seat g is) [
        | inl e ↦ elim (hand_is hand id taken other g' is') [
          | inl e' ↦ e.0 ∙ sym e'.0
          | inr e' ↦ absurd (takes.free other g' e'.1 (sym same ∙ ap (λ (y : Hand). slot_of y.name) (sym e.1)))
        ]
        | inr e ↦ elim (hand_is hand id taken other g' is') [
          | inl e' ↦ absurd (takes.free seat g e.1 (same ∙ ap (λ (y : Hand). slot_of y.name) (sym e'.1)))
          | inr e' ↦ refines.single seat other g g' e.1 e'.1 same
        ]
      ];
    }

  -- a word is stored
  module _ (h : Hand) (g : Field) (x : ℕ) (fills : HandIsFilled last memory memory' hand id h g x) where
    -- the hand with one store more
    abbrev more : Hand
    more = record h { stores = (g, x) ∷ h.stores }

    abbrev hands : ℕ → Option Hand
    hands = put hand id (Some more)

    -- each hand is of a slot of which there was one
    was : (seat : ℕ) (u : Hand) → hands seat ≡ Some u → (v : Hand) × (hand seat ≡ Some v) × (v.name ≡ u.name)
    was seat u is = elim (hand_is hand id more seat u is) [
      | inl e ↦ (h, ap hand e.0 ∙ fills.has, ap (λ (y : Hand). y.name) e.1)
      | inr e ↦ (u, e.1, refl)
    ]

    -- where a card lies that has won its flag, no word changes
    stays : (other : ℕ) (f : Field) → other ≤ last → other ≢ slot_of h.name → get_or memory' (address other f) 0 ≡ get_or memory (address other f) 0
    stays other f below apart = fills.stays other f below (λ e. apart (addresses_apart other (slot_of h.name) f g e).0)

    -- the slot has what was stored of each field
    stored_now : (f : Field) (y : ℕ) → (if place g == place f then x else stored_at h.stores f) ≡ y → y ≢ 0
        → get_or memory' (address (slot_of h.name) f) 0 ≡ cut_field f y
    stored_now f y is more = by (place g == place f) refl is
      where
        by : (b : Bool) → (place g == place f) ≡ b → (if b then x else stored_at h.stores f) ≡ y
            → get_or memory' (address (slot_of h.name) f) 0 ≡ cut_field f y
        by true e is =
            let places = eqb-true (place g) (place f) e in
            let same = addresses_apart (slot_of h.name) (slot_of h.name) g f (same_address places) in
            ap (λ i. get_or memory' (address (slot_of h.name) i) 0) (sym same.1) ∙ (fills.stores ∙ (λ i. cut_field (same.1 i) (is i)))
          where
            same_address : place g ≡ place f → address (slot_of h.name) g ≡ address (slot_of h.name) f
            same_address places = omega (arith, places)
        by false e is =
            fills.stays (slot_of h.name) f (refines.held id h fills.has).0
            (λ same. true≢false (sym (eq-eqb (place g) (place f) (ap place (sym (addresses_apart (slot_of h.name) (slot_of h.name) f g same).1))) ∙ e))
            ∙ refines.filled id h f y fills.has is more

    -- so memory refines its tree
    pub fill_keeps_refinement : RefinesBy last name tree memory' hands stage lie dead pinned was_dead
    fill_keeps_refinement = record {
      flat = fills.flat ∙ refines.flat;
      root = refines.root;
      each = refines.each;
      own = refines.own;
      at = λ other f below won said.
          stays other f below (λ e. (refines.held id h fills.has).1 (subst (λ y. HasWon stage (lie y)) e won)) ∙ refines.at other f below won said;
      alive = refines.alive;
      lives = refines.lives;
      fits = refines.fits;
      held = λ seat u is.
          let old = was seat u is in
          subst (λ n. (slot_of n ≤ last) × (¬ HasWon stage (lie (slot_of n)))) old.2 (refines.held seat old.0 old.1);
      filled = λ seat u f y is has some. elim (hand_is hand id more seat u is) [
        | inl e ↦
            ap (λ (w : Hand). get_or memory' (address (slot_of w.name) f) 0) (sym e.1)
            ∙ stored_now f y (ap (λ (w : Hand). stored_at w.stores f) e.1 ∙ has) some
        | inr e ↦
            stays (slot_of u.name) f (refines.held seat u e.1).0 (λ same. e.0 (refines.single seat id u h e.1 fills.has same))
            ∙ refines.filled seat u f y e.1 has some
      ];
      single = λ seat other u u' is is' same.
          let old = was seat u is in
          let old' = was other u' is' in
          refines.single seat other old.0 old'.0 old.1 old'.1 (ap slot_of old.2 ∙ (same ∙ ap slot_of (sym old'.2)));
    }
