-- Memory refines its tree still, by names, where cards die, where announcements are pinned and no longer pinned, and
-- where memory grows.
use Rattle.std.proofs.Common.{◌≡◌, ◌⊎◌, ℕ, ◌≤◌, inl, inr, if◌then◌else◌, nat_le, Bool, true, false, Option, List, get_or, refl, sym, ap, ◌∙◌, subst, arith}
use Rattle.std.proofs.lemmas.Bool.{le-leb, leb-true}
use Rattle.ell_layout.specs.declared.field.Field.{Field}
use Rattle.ell_layout.specs.Layout.{address}
use Rattle.ell_core.specs.history.Stages.{Stages}
use Rattle.ell_runs.specs.Sayings.{says}
use Rattle.ell_cards.specs.NamedRefinement.{Hand, LiesBy, RefinesBy, in_memory, nobody}
use Rattle.ell_cards.specs.SlotWords.{slot_of}
use Rattle.ell_cards.specs.Refinement.{HasWon}

module _ (last : ℕ) (name : ℕ → ℕ) (tree memory : List ℕ) (hand : ℕ → Option Hand) (stage : Stages) (lie : ℕ → ℕ) (dead : ℕ → Bool)
    (pinned : ℕ → Type 0) (was_dead : ℕ → ℕ → Bool) (refines : RefinesBy last name tree memory hand stage lie dead pinned was_dead) where
  -- no card that was dead is alive; and what was not dead when an announcement was pinned is not dead, or was not
  -- before, when the announcement was pinned
  pub ages_keep_refinement : (dead' : ℕ → Bool) (pinned' : ℕ → Type 0) (was_dead' : ℕ → ℕ → Bool) → ((c : ℕ) → dead' c ≡ false → dead c ≡ false)
      → ((q c : ℕ) → pinned' q → was_dead' q c ≡ false → (dead c ≡ false) ⊎ (pinned q × (was_dead q c ≡ false)))
      → RefinesBy last name tree memory hand stage lie dead' pinned' was_dead'
  ages_keep_refinement dead' pinned' was_dead' still since = record {
    flat = refines.flat;
    root = refines.root;
    each = refines.each;
    own = refines.own;
    at = refines.at;
    alive = λ c won lives. refines.alive c won (still c lives);
    lives = λ q c pin won lives. elim (since q c pin lives) [
      | inl alive ↦ refines.alive c won alive
      | inr old ↦ refines.lives q c old.0 won old.1
    ];
    fits = refines.fits;
    held = refines.held;
    filled = refines.filled;
    single = refines.single;
  }

  -- memory grows by slots in which nobody lies
  module _ (last' : ℕ) (memory' : List ℕ) (none : ¬ HasWon stage nobody) (grows : last ≤ last') (flat : get_or memory' 1 0 ≡ get_or memory 1 0)
      (stays : (slot : ℕ) (f : Field) → slot ≤ last → get_or memory' (address slot f) 0 ≡ get_or memory (address slot f) 0) where
    -- what lies in the slots that there were, and nobody in the others
    abbrev lie' : ℕ → ℕ
    lie' slot = if nat_le slot last then lie slot else nobody

    -- the slots that there were
    lies_there : (slot : ℕ) → slot ≤ last → lie' slot ≡ lie slot
    lies_there slot inside = ap (λ b. if b then lie slot else nobody) (le-leb slot last inside)

    -- so a card that lay in its slot lies there still
    lies_still : (c : ℕ) → LiesBy last name lie c → LiesBy last' name lie' c
    lies_still c lies = (let at = lies.0 in omega (arith, at, grows), lies_there (slot_of (name c)) lies.0 ∙ lies.1)

    -- a card lies in a slot that there was
    inside : (slot : ℕ) → HasWon stage (lie' slot) → slot ≤ last
    inside slot won = by (nat_le slot last) refl
      where
        by : (b : Bool) → nat_le slot last ≡ b → slot ≤ last
        by true is = leb-true slot last is
        by false is = absurd (none (subst (HasWon stage) (ap (λ b. if b then lie slot else nobody) is) won))

    -- so memory refines its tree
    pub growth_keeps_refinement : RefinesBy last' name tree memory' hand stage lie' dead pinned was_dead
    growth_keeps_refinement = record {
      flat = flat ∙ refines.flat;
      root = lies_there 0 (omega arith) ∙ refines.root;
      each = λ slot below. by slot (nat_le slot last) refl;
      own = λ slot below won.
          let at = inside slot won in
          let is = lies_there slot at in
          ap (λ c. slot_of (name c)) is ∙ refines.own slot at (subst (HasWon stage) is won);
      at = λ slot f below won said.
          let at = inside slot won in
          let is = lies_there slot at in
          stays slot f at
          ∙ (refines.at slot f at (subst (HasWon stage) is won) (subst (λ c. says (stage c) f ≡ true) is said)
          ∙ ap (λ c. in_memory name f (get_or tree (address c f) 0)) (sym is));
      alive = λ c won lives. lies_still c (refines.alive c won lives);
      lives = λ q c pin won lives. lies_still c (refines.lives q c pin won lives);
      fits = λ c won. let at = refines.fits c won in omega (arith, at, grows);
      held = λ seat h is.
          let old = refines.held seat h is in
          let at = old.0 in
          (omega (arith, at, grows), λ won. old.1 (subst (HasWon stage) (lies_there (slot_of h.name) at) won));
      filled = λ seat h f x is has some. stays (slot_of h.name) f (refines.held seat h is).0 ∙ refines.filled seat h f x is has some;
      single = refines.single;
    }
      where
        by : (slot : ℕ) (b : Bool) → nat_le slot last ≡ b → HasWon stage (lie' slot) ⊎ (lie' slot ≡ nobody)
        by slot true is =
            let at = lies_there slot (leb-true slot last is) in elim (refines.each slot (leb-true slot last is)) [
              | inl won ↦ inl (subst (HasWon stage) (sym at) won)
              | inr empty ↦ inr (at ∙ empty)
            ]
        by slot false is = inr (ap (λ b. if b then lie slot else nobody) is)
