use Rattle.std.proofs.Common.{◌≡◌, ℕ, ◌%◌, ◌<◌, if◌then◌else◌, ◌⊎◌, inl, inr, Bool, true, false, not, refl, sym, ap, ◌∙◌, subst, arith}
use Rattle.std.proofs.lemmas.Bool.{cases_Bool, false≢true}
use Rattle.ell_word.specs.Node.{IsInternal, card, internal, left_leaf, right_leaf}
use Rattle.ell_core.specs.declared.event.Act.{Act}
use Rattle.ell_core.specs.declared.event.Stepped.{Stepped}
use Rattle.ell_core.specs.declared.fact.Fact.TheVariants as fact
use Rattle.ell_layout.specs.declared.field.Field.TheVariants.{Left, Right}
use Rattle.ell_layout.specs.Words.{Words, is_flat}
use Rattle.ell_layout.specs.Cards.{iflag, is_replace_card, brought, keeps_below, stays_below}
use Rattle.ell_core.specs.state.Machine.{Machine, Scene, scene, with_scene}
use Rattle.ell_core.specs.acts.Events.{Row}
use Rattle.ell_core.specs.history.Stages.{Stage, Stages, IFlagged, Born, is_start, is_insert, is_born, insert_open, insert_over, is_changed}
use Rattle.ell_core.specs.history.Invariant.{insert_side, Invariant}
use Rattle.ell_core.specs.history.Later.{SaysTheSame, Follows}
use Rattle.ell_grace.specs.Gone.{TakesOut, OutsAreSound}
use Rattle.ell_grace.specs.Dead.{IsUnused, LeavesAreKept, UsesAreSound}
use Rattle.ell_core.proofs.lemmas.stages.Order.{insert-claimed, insert_won-insert, changed-won, changed-insert, cut-delete, inner-born, all-born, one_kind, waits_or_changed}
use Rattle.ell_core.proofs.lemmas.stages.Sums.{sum-changed}
use Rattle.ell_core.proofs.lemmas.stages.Below.{keeps-stays, keeps_later}
use Rattle.ell_core.proofs.lemmas.keeping.insert_child.Card.{its_card, its_child}
use Rattle.ell_core.proofs.lemmas.keeping.insert_child.Nodes.{leaf_on, its_keys, key_differs, child_is, below_child}
use Rattle.ell_grace.proofs.lemmas.outs.Taken.{zero_or_more, acted, taken_born, born_low}
use Rattle.ell_grace.proofs.lemmas.outs.Newly.{had_taken}
use Rattle.ell_grace.proofs.lemmas.since.Much.{few_won, changed_much, insert_was}
use Rattle.ell_grace.proofs.lemmas.dead.Frames.{changed_low, replace_same, brought_same, side_same, born_same, unused_back}

-- a card that is not of the opening tree, and whose internal node came into the tree, has made its child exchange
born_or_start : (s : Stage) → is_born s ≡ true → (is_start s ≡ true) ⊎ (is_changed s ≡ true)
born_or_start s h = grind arith

start-born : (s : Stage) → is_start s ≡ true → is_born s ≡ true
start-born s h = grind arith

-- an insert that has made its child exchange has its flag or is over
open_or_over : (s : Stage) → is_changed s ≡ true → (insert_open s ≡ true) ⊎ (insert_over s ≡ true)
open_or_over s h = grind arith

over_shut : (s : Stage) → insert_over s ≡ true → insert_open s ≡ true → ⊥
over_shut s h g = grind arith

not_true : (b : Bool) → true ≡ not b → b ≡ false
not_true false e = refl
not_true true e = absurd (false≢true (sym e))

-- What an act does to what is used: of an internal node that had come into the tree no child is a leaf that nobody uses; an
-- insert that has newly made its child exchange has brought its node; what a card has newly taken out is no such leaf; and the parent of one that has its flag has the children
-- that it had.
pub record NewlyUsed (old : Words) (stage : Stages) (new : Words) (stages : Stages) : Type 0 where
  pub was : (x : ℕ) → IsInternal x → Born stage x → (right : Bool) → ¬ IsUnused new stages (new.child x right)
  pub fresh : (c : ℕ) → acted (stage c) ≡ 0 → is_changed (stages c) ≡ true → new.child (new.p c) (insert_side new c) ≡ brought new c
  pub out : (c x : ℕ) → acted (stage c) ≡ 0 → TakesOut new stages c x → Born stage x × (¬ IsUnused old stage x)
  pub still : (c : ℕ) → is_changed (stage c) ≡ true → old.update (old.p c) ≡ iflag c
      → (right : Bool) → new.child (old.p c) right ≡ old.child (old.p c) right

module _ (m : Machine) (stage : Stages) (i : ℕ) (a : Act) (said : Stepped) (becomes : Scene) (invariant : Invariant m stage)
    (row : Row a (scene m i) said becomes) (follows : Follows m stage a i said (with_scene m i becomes)) (outs : OutsAreSound m.words stage)
    (uses : UsesAreSound m.words stage) where
  abbrev old : Words
  old = m.words

  abbrev new : Words
  new = becomes.words

  abbrev stages : Stages
  stages = follows.stages

  replaces : (c : ℕ) → c < old.next → is_replace_card new c ≡ is_replace_card old c
  replaces = replace_same old stage invariant.words new stages follows.invariant.words follows.words follows.later

  -- what nobody uses that had come, nobody used
  back : (x : ℕ) → Born stage x → IsUnused new stages x → IsUnused old stage x
  back = unused_back old stage invariant.words new stages follows.invariant.words follows.words follows.later

  -- a child as it was is used
  pub as_it_was : (x : ℕ) → IsInternal x → Born stage x → (side : Bool) (y : ℕ) → y ≡ old.child x side → ¬ IsUnused new stages y
  as_it_was x inner born side y is unused =
      uses.used x inner born side (subst (IsUnused old stage) is
      (back y (subst (Born stage) (sym is) ((invariant.words.children x inner born).born side)) unused))

  -- a card whose internal node comes into the tree had its flag, and puts two keys
  new_card : (c : ℕ) → is_born (stages c) ≡ true → (is_born (stage c) ≡ false) → (stage c ≡ IFlagged) × (is_replace_card old c ≡ false)
  new_card c born none = elim (born_or_start (stages c) born) [
    | inl start ↦ absurd (false≢true (sym none ∙ start-born (stage c) (sym (follows.later.start c) ∙ start)))
    | inr changed ↦
        let won = insert_was stage stages c _ (follows.wins c) (few_won a (m.worker i).card said c) follows.later
        (changed_much (stages c) changed) (changed-won (stages c) changed) in
        let low = (invariant.words.cards c).claimed.0 (insert-claimed (stage c) (insert_won-insert (stage c) won)) in (
          elim (waits_or_changed (stage c) won) [
            | inl flagged ↦ flagged
            | inr had ↦ absurd (false≢true (sym none
                ∙ (sym (born_same old stage invariant.words new stages follows.invariant.words follows.words follows.later c had) ∙ born)))
          ],
          sym (replaces c low) ∙ not_true (is_replace_card new c) (sym born ∙ (follows.invariant.words.inserts c).brings changed),
        )
  ]

  -- a leaf of such a card that nobody uses is no child of its internal node
  new_leaf : (c : ℕ) (flagged : stage c ≡ IFlagged) (two : is_replace_card old c ≡ false) (right : Bool) → stays_below (is_flat old) (old.l c) ≡ true
      → old.key (leaf_on old stage invariant.words c flagged two right) ≡ old.key (old.l c) → old.child (internal c) right ≡ old.l c
  new_leaf c flagged two false kept same = elim (its_keys old stage invariant.words c flagged two) [
    | inl h ↦ below_child old stage invariant.words c flagged two kept true h.1 h.0
    | inr h ↦ absurd (key_differs old stage invariant.words c flagged two (sym same ∙ h.0))
  ]
  new_leaf c flagged two true kept same = elim (its_keys old stage invariant.words c flagged two) [
    | inl h ↦ absurd (key_differs old stage invariant.words c flagged two (sym same ∙ h.1))
    | inr h ↦ below_child old stage invariant.words c flagged two kept false h.0 h.1
  ]

  -- the children of an internal node that comes into the tree are used
  comes_used : (c : ℕ) → is_born (stages c) ≡ true → is_born (stage c) ≡ false → (right : Bool) → ¬ IsUnused new stages (new.child (internal c) right)
  comes_used c born none right unused =
      let it = new_card c born none in
      let flagged = it.0 in
      let two = it.1 in
      let low = (invariant.words.cards c).claimed.0 (insert-claimed (stage c) (ap is_insert flagged)) in
      let same : new.child (internal c) right ≡ old.child (internal c) right = kid right (follows.unborn c low none) in
      let free = subst (IsUnused new stages) same unused in
      elim (child_is old stage invariant.words c flagged two right) [
        | inr h ↦ uses.used (old.p c) (its_card old stage invariant.words c flagged).parent.inner (its_card old stage invariant.words c flagged).parent.born (insert_side old c)
            (subst (IsUnused old stage) (sym (its_child old stage invariant.words c flagged))
            (back (old.l c) (its_card old stage invariant.words c flagged).lower (subst (IsUnused new stages) h.0 free)))
        | inl e ↦
            let at = subst (IsUnused new stages) e free in
            let on : card (leaf_on old stage invariant.words c flagged two right) ≡ c = of_card right in
            let goes = follows.words.info c low in
            let lower = ((invariant.words.cards c).insert (ap is_insert flagged)).lower in
            let kept : stays_below (is_flat old) (old.l c) ≡ true =
            sym (keeps-stays old c two) ∙ (sym (keeps_later old new follows.words c low) ∙ (ap (keeps_below new) (sym on) ∙ at.1)) in
            let key : old.key (leaf_on old stage invariant.words c flagged two right) ≡ old.key (old.l c) =
            sym (follows.words.key (leaf_on old stage invariant.words c flagged two right) (subst (λ n. n < old.next) (sym on) low))
            ∙ (at.3 ∙ (ap new.key (ap new.l on ∙ goes.l) ∙ follows.words.key (old.l c) (born_low old stage invariant.words (old.l c) lower))) in
            let there = new_leaf c flagged two right kept key in
            past right (sym e ∙ there)
      ]
    where
      kid : (side : Bool) → SaysTheSame old new c → new.child (internal c) side ≡ old.child (internal c) side
      kid false says = says.words Left
      kid true says = says.words Right

      past : (side : Bool) → (if side then right_leaf c else left_leaf c) ≡ old.l c → ⊥
      past false is = let before = (its_card old stage invariant.words c (new_card c born none).0).before in omega arith
      past true is = let before = (its_card old stage invariant.words c (new_card c born none).0).before in omega arith

      of_card : (side : Bool) → card (if side then right_leaf c else left_leaf c) ≡ c
      of_card false = omega arith
      of_card true = omega arith

  -- so what is used is sound
  pub uses_from : NewlyUsed old stage new stages → LeavesAreKept new stages → UsesAreSound new stages
  uses_from newly leaves = record {
    used = λ x inner born right. elim (cases_Bool (is_born (stage (card x)))) [
      | inl had ↦ newly.was x inner (born_by x inner had) right
      | inr none ↦
          let same : internal (card x) ≡ x = omega arith in
          subst (λ y. ¬ IsUnused new stages (new.child y right)) same
          (comes_used (card x) (inner-born (stages (card x)) (x % 4) inner born) none right)
    ];
    taken = λ c x takes unused. elim (zero_or_more (acted (stage c))) [
      | inl zero ↦ (let had = newly.out c x zero takes in had.1 (back x had.0 unused))
      | inr some ↦
          let had = had_taken m stage i a said becomes invariant row follows outs c x some takes in
          uses.taken c x had (back x (taken_born old stage invariant.words c x had) unused)
    ];
    stands = λ c changed still. elim (zero_or_more (acted (stage c))) [
      | inl zero ↦ newly.fresh c zero changed
      | inr some ↦ elim (sum-changed (stage c) some) [
        | inr cut ↦ absurd (one_kind (stages c) (changed-insert (stages c) changed) (follows.later.delete c (cut-delete (stage c) cut)))
        | inl had ↦ stood c had still
      ]
    ];
    kept = leaves;
  }
    where
      born_by : (x : ℕ) → IsInternal x → is_born (stage (card x)) ≡ true → Born stage x
      born_by x inner had = all-born (stage (card x)) (x % 4) (omega arith) had

      was_open : (c : ℕ) → is_changed (stage c) ≡ true → insert_open (stages c) ≡ true → insert_open (stage c) ≡ true
      was_open c had now = elim (open_or_over (stage c) had) [
        | inl still ↦ still
        | inr over ↦ absurd (over_shut (stages c) (follows.later.told (fact.IOver c) c over) now)
      ]

      stood : (c : ℕ) → is_changed (stage c) ≡ true → insert_open (stages c) ≡ true → new.child (new.p c) (insert_side new c) ≡ brought new c
      stood c had now =
          let low = changed_low old stage invariant.words new stages follows.invariant.words follows.words follows.later c had in
          let still = was_open c had now in
          let said_card = (invariant.words.cards c).insert (changed-insert (stage c) had) in
          ap (λ x. new.child x (insert_side new c)) (follows.words.info c low).p
          ∙ (ap (new.child (old.p c)) (side_same old stage invariant.words new stages follows.invariant.words follows.words follows.later c low said_card)
          ∙ (newly.still c had ((invariant.words.inserts c).flag still) (insert_side old c)
          ∙ (uses.stands c had still ∙ sym (brought_same old stage invariant.words new stages follows.invariant.words follows.words follows.later c low))))
