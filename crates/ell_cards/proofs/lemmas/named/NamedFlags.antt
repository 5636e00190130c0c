-- Memory refines its tree still, by names, where a flag is won: the card gets its number and the name of the hand.
use Rattle.std.proofs.Common.{◌≡◌, ◌≢◌, ℕ, ◌≤◌, inl, inr, Bool, true, Option, Some, None, get_or, refl, sym, ap, ◌∙◌, subst, List}
use Rattle.std.proofs.lemmas.Bool.{cases_eq}
use Rattle.ell_layout.specs.declared.field.Field.{Field}
use Rattle.ell_layout.specs.declared.field.Field.TheVariants as field
use Rattle.ell_layout.specs.Layout.{address}
use Rattle.ell_layout.specs.Words.{put}
use Rattle.ell_layout.proofs.lemmas.Writes.{put_same, put_other}
use Rattle.ell_layout.proofs.lemmas.Listed.{addresses_apart}
use Rattle.ell_core.specs.history.Stages.{Stages}
use Rattle.ell_core.proofs.lemmas.outcomes.Decide.{some_not_none}
use Rattle.ell_cards.specs.NamedRefinement.{Hand, LiesBy, RefinesBy, FlagIsWon, in_memory}
use Rattle.ell_runs.specs.Sayings.{says}
use Rattle.ell_cards.specs.Shown.{cut_field}
use Rattle.ell_cards.specs.SlotWords.{slot_of}
use Rattle.ell_cards.specs.Refinement.{HasWon}

module _ (last : ℕ) (name name' : ℕ → ℕ) (tree tree' memory memory' : List ℕ) (hand : ℕ → Option Hand) (stage stage' : Stages) (lie : ℕ → ℕ) (dead : ℕ → Bool) (pinned : ℕ → Type 0)
    (was_dead : ℕ → ℕ → Bool) (refines : RefinesBy last name tree memory hand stage lie dead pinned was_dead) (id c p left : ℕ) (h : Hand) (holds : hand id ≡ Some h) (planned : Field → ℕ)
    (flag : FlagIsWon last name name' tree tree' memory memory' stage stage' lie c p left h planned) where
  -- the slot of the hand, where the new card lies from now on
  abbrev slot : ℕ
  slot = slot_of h.name

  abbrev lie' : ℕ → ℕ
  lie' = put lie slot c

  abbrev hand' : ℕ → Option Hand
  hand' = put hand id None

  -- the new card lies in its slot, and in each other one what lay there
  card_now : lie' slot ≡ c
  card_now = put_same lie slot c

  card_else : (other : ℕ) → other ≢ slot → lie' other ≡ lie other
  card_else other apart = put_other lie slot c other apart

  -- a card that had won its flag is not the new one
  old_is_old : (d : ℕ) → HasWon stage d → d ≢ c
  old_is_old d won e = flag.fresh (subst (HasWon stage) e won)

  -- the name of a card that had won its flag is as it was, and where it lay it lies
  slot_stays : (d : ℕ) → HasWon stage d → slot_of (name' d) ≡ slot_of (name d)
  slot_stays d won = ap slot_of (flag.others.names d won)

  lies_on : (d : ℕ) → HasWon stage d → LiesBy last name lie d → LiesBy last name' lie' d
  lies_on d won lies = (
    subst (λ x. x ≤ last) (sym (slot_stays d won)) lies.0,
    ap lie' (slot_stays d won)
        ∙ (card_else (slot_of (name d)) (λ e. (refines.held id h holds).1 (subst (HasWon stage) (sym (sym (ap lie e) ∙ lies.1)) won)) ∙ lies.1),
  )

  -- the new card lay nowhere
  nowhere : (other : ℕ) → other ≤ last → lie other ≡ c → ⊥
  nowhere other below e = elim (refines.each other below) [
    | inl won ↦ flag.fresh (subst (HasWon stage) e won)
    | inr none ↦ flag.room (sym e ∙ none)
  ]

  -- the new card lies in its slot
  lies_now : LiesBy last name' lie' c
  lies_now =
      (subst (λ x. x ≤ last) (ap slot_of (sym flag.named)) (refines.held id h holds).0, ap (λ x. lie' (slot_of x)) flag.named ∙ card_now)

  -- whoever has won its flag now lies in its slot, if it did where it had won it before
  lies_after : (d : ℕ) → HasWon stage' d → (HasWon stage d → LiesBy last name lie d) → LiesBy last name' lie' d
  lies_after d won lies = elim (cases_eq d c) [
    | inl e ↦ subst (LiesBy last name' lie') (sym e) lies_now
    | inr other ↦ (let had = flag.wins d won other in lies_on d had (lies had))
  ]

  -- the node that is flagged is in another slot than the hand
  flagged_else : slot_of (name p) ≢ slot
  flagged_else e = (refines.held id h holds).1 (subst (HasWon stage) (sym flag.lies.1 ∙ ap lie e) flag.has)

  -- the words of the new card are those that were stored
  at_new : (f : Field) → says (stage' c) f ≡ true
      → get_or memory' (address slot f) 0 ≡ in_memory name' f (get_or tree' (address c f) 0)
  at_new f said =
      flag.stays' slot f (refines.held id h holds).0 (λ e. flagged_else (sym (addresses_apart slot (slot_of (name p)) f field.Update e).0))
      ∙ (flag.whole f said ∙ ap (in_memory name' f) (sym (flag.mine f said)))

  -- those of other cards are as they were, but for the update word that is flagged
  at_old : (other : ℕ) (f : Field) → other ≤ last → HasWon stage (lie other) → says (stage (lie other)) f ≡ true
      → get_or memory' (address other f) 0 ≡ in_memory name' f (get_or tree' (address (lie other) f) 0)
  at_old other f below won said = elim (cases_eq (address other f) (address (slot_of (name p)) field.Update)) [
    | inl e ↦
        let same = addresses_apart other (slot_of (name p)) f field.Update e in
        let card : lie other ≡ p = ap lie same.0 ∙ flag.lies.1 in
        ap (λ i. get_or memory' i 0) e
        ∙ (flag.flags' ∙ ((λ i. in_memory name' (sym same.1 i) left)
        ∙ ap (in_memory name' f) (sym (ap (λ i. get_or tree' i 0) (λ i. address (card i) (same.1 i)) ∙ flag.flags))))
    | inr apart ↦
        let own = refines.own other below won in
        flag.stays' other f below apart
        ∙ (refines.at other f below won said
        ∙ (ap (cut_field f) (sym (flag.others.words (lie other) f won said))
        ∙ ap (in_memory name' f) (sym (flag.stays (lie other) f won (λ e. let same = addresses_apart (lie other) p f field.Update e in
        apart (λ i. address ((sym own ∙ ap (λ x. slot_of (name x)) same.0) i) (same.1 i)))))))
  ]

  -- so each slot has the words of the card that lies there
  at_slot : (other : ℕ) (f : Field) → other ≤ last → HasWon stage' (lie' other) → says (stage' (lie' other)) f ≡ true
      → get_or memory' (address other f) 0 ≡ in_memory name' f (get_or tree' (address (lie' other) f) 0)
  at_slot other f below won said = elim (cases_eq other slot) [
    | inl e ↦
        let card : lie' other ≡ c = ap lie' e ∙ card_now in
        ap (λ x. get_or memory' (address x f) 0) e
        ∙ (at_new f (subst (λ x. says (stage' x) f ≡ true) card said) ∙ ap (λ x. in_memory name' f (get_or tree' (address x f) 0)) (sym card))
    | inr apart ↦
        let is = card_else other apart in
        let won' = subst (HasWon stage') is won in
        elim (cases_eq (lie other) c) [
          | inl e ↦ absurd (nowhere other below e)
          | inr old ↦
              let had = flag.wins (lie other) won' old in
              at_old other f below had (flag.others.kinds (lie other) f had (subst (λ x. says (stage' x) f ≡ true) is said))
              ∙ ap (λ x. in_memory name' f (get_or tree' (address x f) 0)) (sym is)
        ]
  ]

  -- the slot of the root is another one
  not_root : 0 ≢ slot
  not_root e = (refines.held id h holds).1 (subst (HasWon stage) (sym refines.root ∙ ap lie e) flag.start)

  -- another hand is as it was
  other_hand : (seat : ℕ) (g : Hand) → hand' seat ≡ Some g → (seat ≢ id) × (hand seat ≡ Some g)
  other_hand seat g is = elim (cases_eq seat id) [
    | inl e ↦ absurd (some_not_none (sym (ap hand' e ∙ put_same hand id None) ∙ is) refl)
    | inr other ↦ (other, sym (put_other hand id None seat other) ∙ is)
  ]

  -- and in another slot, where no card lies
  other_slot : (seat : ℕ) (g : Hand) → seat ≢ id → hand seat ≡ Some g → slot_of g.name ≢ slot
  other_slot seat g other is e = other (refines.single seat id g h is holds e)

  -- so no card lies there now
  empty_still : (seat : ℕ) (g : Hand) → seat ≢ id → hand seat ≡ Some g → ¬ HasWon stage' (lie' (slot_of g.name))
  empty_still seat g other is won =
      let old = refines.held seat g is in
      let same = card_else (slot_of g.name) (other_slot seat g other is) in
      old.1 (flag.wins (lie (slot_of g.name)) (subst (HasWon stage') same won) (λ e. nowhere (slot_of g.name) old.0 e))

  -- and memory refines its tree
  pub flag_keeps_refinement : RefinesBy last name' tree' memory' hand' stage' lie' dead pinned was_dead
  flag_keeps_refinement = record {
    flat = flag.flat' ∙ (refines.flat ∙ sym flag.flat);
    root = card_else 0 not_root ∙ refines.root;
    each = λ other below. elim (cases_eq other slot) [
      | inl e ↦ inl (subst (HasWon stage') (sym (ap lie' e ∙ card_now)) flag.now)
      | inr apart ↦ elim (refines.each other below) [
        | inl won ↦ inl (subst (HasWon stage') (sym (card_else other apart)) (flag.others.later (lie other) won))
        | inr none ↦ inr (card_else other apart ∙ none)
      ]
    ];
    own = λ other below won. elim (cases_eq other slot) [
      | inl e ↦ ap (λ x. slot_of (name' x)) (ap lie' e ∙ card_now) ∙ (ap slot_of flag.named ∙ sym e)
      | inr apart ↦
          let is = card_else other apart in
          let had = flag.wins (lie other) (subst (HasWon stage') is won) (λ e. nowhere other below e) in
          ap (λ x. slot_of (name' x)) is ∙ (slot_stays (lie other) had ∙ refines.own other below had)
    ];
    at = at_slot;
    alive = λ d won lives. lies_after d won (λ had. refines.alive d had lives);
    lives = λ q d pin won lives. lies_after d won (λ had. refines.lives q d pin had lives);
    fits = λ d won. elim (cases_eq d c) [
      | inl e ↦ subst (λ x. slot_of (name' x) ≤ last) (sym e) lies_now.0
      | inr other ↦ (let had = flag.wins d won other in subst (λ x. x ≤ last) (sym (slot_stays d had)) (refines.fits d had))
    ];
    held = λ seat g is. let old = other_hand seat g is in ((refines.held seat g old.1).0, empty_still seat g old.0 old.1);
    filled = λ seat g f x is has some.
        let old = other_hand seat g is in
        flag.stays' (slot_of g.name) f (refines.held seat g old.1).0
        (λ e. let same = addresses_apart (slot_of g.name) (slot_of (name p)) f field.Update e in
        (refines.held seat g old.1).1 (subst (HasWon stage) (sym (ap lie same.0 ∙ flag.lies.1)) flag.has))
        ∙ refines.filled seat g f x old.1 has some;
    single = λ seat other g g' is is' same. refines.single seat other g g' (other_hand seat g is).1 (other_hand other g' is').1 same;
  }
