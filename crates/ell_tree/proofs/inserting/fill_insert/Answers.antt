use Rattle.std.proofs.Common.{◌≡◌, ◌↔◌, IsTrue, Bool, true, false, refl, zero, suc, ℕ, ◌<◌, ◌≤◌, if◌then◌else◌, nat_lt, sym, ap, ◌∙◌, subst, arith}
use Rattle.std.proofs.lemmas.Bool.{false≢true, lt-ltb, le-ltb}
use Rattle.ell_layout.specs.Cards.{left_of_card, right_of_card}
use Rattle.ell_runs.specs.Plans.{flat_from}
use Rattle.ell_word.specs.Link.{IsLink, linked}
use Rattle.ell_layout.specs.declared.field.Field.TheVariants as field
use Rattle.ell_tree.proofs.lemmas.Links.{parent_low, place_link}
use Rattle.ell_tree.proofs.lemmas.Storing.{bare, low_node, stores_none, stores_more, fills_insert, whole_insert}
use Rattle.ell_tree.proofs.inserting.fill_insert.Goals as goal
use Rattle.ell_tree.proofs.inserting.fill_insert.Goals.{then-key-place, else-key-place}

pub word-below-requires : goal.word-below-requires
word-below-requires g c =
    subst IsLink (sym c.node_with.ensures)
    (place_link c.args.place c.args.place.parent.tag c.args.pass.now.view c.requires.card.card.stands c.requires.tag c.facts_stay_inside.ensures.short)

pub fill-requires-clause-fits : goal.fill-requires-clause-fits
fill-requires-clause-fits g c =
    low_node c.args.place.parent.node (parent_low c.args.place c.args.pass.now.view c.requires.card.card.behind c.facts_stay_inside.ensures.short)

-- whether a tree is flat, as a test tells it
as_told : (b : Bool) (n : ℕ) → (IsTrue b ↔ (0 < n)) → b ≡ nat_lt 0 n
as_told true n same = sym (lt-ltb 0 n (same.0 refl))
as_told false n same = sym (le-ltb 0 n (none n (λ less. false≢true (same.1 less))))
  where
    none : (n : ℕ) → ((0 < n) → ⊥) → n ≤ 0
    none zero lacks = omega arith
    none (suc n) lacks = absurd (lacks (omega arith))

pub returns : goal.returns
returns g c =
    let a = c.args.pass.now in
    let place = c.args.place in
    let lesser = c.min-lesser.result in
    let greater = c.max-greater.result in
    let left = c.child_word.result in
    let right = c.child_word-2.result in
    let short = c.facts_stay_inside.ensures.short in
    let card = c.requires.card.card in
    let update = c.update_word-clean.result in
    let word = c.word-below.result in
    let values = c.if-key-place.left_value in
    let s1 = stores_more a a c.fill.new.pass _ 0 field.P place.parent.node (stores_none a c.requires.card.card.empty) c.fill.ensures.step in
    let s2 = stores_more a c.fill.new.pass c.fill-2.new.pass _ 1 field.L word s1 c.fill-2.ensures.step in
    let s3 = stores_more a c.fill-2.new.pass c.fill-3.new.pass _ 2 field.Key c.args.node_key s2 c.fill-3.ensures.step in
    let s4 = stores_more a c.fill-3.new.pass c.fill-4.new.pass _ 3 field.Left left s3 c.fill-4.ensures.step in
    let s5 = stores_more a c.fill-4.new.pass c.fill-5.new.pass _ 4 field.Right right s4 c.fill-5.ensures.step in
    let s6 = stores_more a c.fill-5.new.pass c.fill-6.new.pass _ 5 field.Update update s5 c.fill-6.ensures.step in
    let s7 = stores_more a c.fill-6.new.pass c.fill-7.new.pass _ 6 field.LeftLeafKey lesser s6 c.fill-7.ensures.step in
    let s8 = stores_more a c.fill-7.new.pass c.fill-8.new.pass _ 7 field.RightLeafKey greater s7 c.fill-8.ensures.step in
    let s9 = stores_more a c.fill-8.new.pass c.fill-9.new.pass _ 8 field.LeftValue values.0 s8 c.fill-9.ensures.step in
    let s10 = stores_more a c.fill-9.new.pass c.fill-10.new.pass _ 9 field.RightValue values.1 s9 c.fill-10.ensures.step in
    record {
      fills = fills_insert a c.fill-10.new.pass place.parent.node word c.args.node_key lesser greater left right update values.0 values.1 s10
          (nat_lt 0 (flat_from c.args.steps.table.now.plan)) c.args.card c.args.what.key c.args.what.value place.node place.parent.tag place.key place.value (parent_low place a.view card.behind short)
          (place_link place place.parent.tag a.view card.stands c.requires.tag short) card.says
          (c.word-below.ensures ∙ ap linked c.node_with.ensures) c.min-lesser.ensures c.max-greater.ensures
          (c.child_word.ensures ∙ ap bare (c.card_children-left.ensures.left ∙ ap (λ b. left_of_card b c.args.card c.args.what.key place.node place.key) flat))
          (c.child_word-2.ensures ∙ ap bare (c.card_children-left.ensures.right ∙ ap (λ b. right_of_card b c.args.card c.args.what.key place.node place.key) flat))
          c.update_word-clean.ensures sides.0 sides.1;
      whole = λ some. whole_insert a c.fill-10.new.pass place.parent.node word c.args.node_key lesser greater left right update values.0 values.1 s10
          c.args.card (c.requires.slot some);
    }
  where
    flat : c.is_flat.result ≡ nat_lt 0 (flat_from c.args.steps.table.now.plan)
    flat = as_told c.is_flat.result (flat_from c.args.steps.table.now.plan) c.is_flat.ensures

    sides : (c.if-key-place.left_value.0 ≡ (if nat_lt c.args.what.key c.args.place.key then c.args.what.value else c.args.place.value))
        × (c.if-key-place.left_value.1 ≡ (if nat_lt c.args.what.key c.args.place.key then c.args.place.value else c.args.what.value))
    sides = elim c.if-key-place.branch [
      | then-key-place w ↦ let less : c.args.what.key < c.args.place.key = omega (arith, w.if-key-place) in
          let test = lt-ltb c.args.what.key c.args.place.key less in (
            ap (λ (v : ℕ × ℕ). v.0) w.left_value-is ∙ sym (ap (λ t. if t then c.args.what.value else c.args.place.value) test),
            ap (λ (v : ℕ × ℕ). v.1) w.left_value-is ∙ sym (ap (λ t. if t then c.args.place.value else c.args.what.value) test),
          )
      | else-key-place w ↦ let past : c.args.place.key ≤ c.args.what.key = omega (arith, w.if-key-place) in
          let test = le-ltb c.args.what.key c.args.place.key past in (
            ap (λ (v : ℕ × ℕ). v.0) w.left_value-is ∙ sym (ap (λ t. if t then c.args.what.value else c.args.place.value) test),
            ap (λ (v : ℕ × ℕ). v.1) w.left_value-is ∙ sym (ap (λ t. if t then c.args.place.value else c.args.what.value) test),
          )
    ]
