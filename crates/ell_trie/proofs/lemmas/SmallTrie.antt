use Rattle.std.proofs.Common.{◌≡◌, ℕ, ◌^◌, if◌then◌else◌, ◌<◌, ◌≤◌, ◌⊎◌, Bool, true, false, inl, inr, refl, sym, ap, subst, arith}
use Rattle.std.proofs.lemmas.Bool.{cases_eq, false≢true, ne_eqb}
use Rattle.std.proofs.lemmas.Bool.Decides.{nat_tests}
use Rattle.ell_word.specs.Node.{IsInternal}
use Rattle.ell_trie.specs.Ranges.{low_of, high_of, Spans, root, goes, here}
use Rattle.ell_block.proofs.lemmas.Middles.{not_in_block}
use Rattle.ell_trie.specs.Halves.{InHalfOf, InsideOf}
use Rattle.ell_trie.specs.Tries.{In, IsTrie}
use Rattle.ell_trie.specs.Courses.{IsInOrder, ordinary}
use Rattle.ell_trie.specs.Links.{InsertAbove}
use Rattle.ell_trie.specs.Examples.{with_seven, small_key, small_child, small_born, small_opening, with_twelve, greater_key}
use Rattle.ell_trie.proofs.lemmas.Middles.{half_there}

-- the internal nodes that were born are nodes 0 and 4
inner_nodes : (x : ℕ) → IsInternal x → In small_born x → (x ≡ 0) ⊎ (x ≡ 4)
inner_nodes x i b = let low : x ≤ 6 = grind (arith, nat_tests) in elim (cases_eq x 0) [ inl e ↦ inl e | inr e ↦ inr (omega arith) ]

by_nodes : (P : ℕ → Type 0) → P 0 → P 4 → (x : ℕ) → IsInternal x → In small_born x → P x
by_nodes P zeroth fourth x i b = elim (inner_nodes x i b) [ inl e ↦ subst P (sym e) zeroth | inr e ↦ subst P (sym e) fourth ]

-- the keys of node 4's leaves are in the halves of its block
left_leaf : InHalfOf 4 false 3
left_leaf = record { block = record { bit = 2; place = 0 }; middle = refl; inside = record { from = omega arith; before = omega arith } }

right_leaf : InHalfOf 4 true 6
right_leaf = record { block = record { bit = 2; place = 0 }; middle = refl; inside = record { from = omega arith; before = omega arith } }

closed : (x : ℕ) (u : Bool) → IsInternal x → In small_born x → In small_born (small_child x u)
closed x true i b = by_nodes (λ v. In small_born (small_child v true)) refl refl x i b
closed x false i b = by_nodes (λ v. In small_born (small_child v false)) refl refl x i b

plain : (x : ℕ) (u : Bool) → IsInternal x → In small_born x → small_opening.holds x ≡ false → small_opening.holds (small_child x u) ≡ false
plain x true i b = by_nodes (λ v. small_opening.holds v ≡ false → small_opening.holds (small_child v true) ≡ false) (λ e. refl) (λ e. refl) x i b
plain x false i b = by_nodes (λ v. small_opening.holds v ≡ false → small_opening.holds (small_child v false) ≡ false) (λ e. refl) (λ e. refl) x i b

deeper : (x : ℕ) (u : Bool) → IsInternal x → In small_born x → small_opening.holds (small_child x u) ≡ true → IsInternal (small_child x u) → 0 < 0
deeper x true i b = by_nodes (λ v. small_opening.holds (small_child v true) ≡ true → IsInternal (small_child v true) → 0 < 0) (λ e. absurd (false≢true e)) (λ e. absurd (false≢true e)) x i b
deeper x false i b = by_nodes (λ v. small_opening.holds (small_child v false) ≡ true → IsInternal (small_child v false) → 0 < 0) (λ e. absurd (false≢true e)) (λ e. absurd (false≢true e)) x i b

leaf : (x : ℕ) (u : Bool) → IsInternal x → In small_born x → small_opening.holds x ≡ false → ¬ IsInternal (small_child x u)
    → InHalfOf (small_key x) u (small_key (small_child x u))
leaf x true i b = by_nodes (λ v. small_opening.holds v ≡ false → ¬ IsInternal (small_child v true) → InHalfOf (small_key v) true (small_key (small_child v true)))
    (λ e. absurd (false≢true (sym e))) (λ e f. right_leaf) x i b
leaf x false i b = by_nodes (λ v. small_opening.holds v ≡ false → ¬ IsInternal (small_child v false) → InHalfOf (small_key v) false (small_key (small_child v false)))
    (λ e. absurd (false≢true (sym e))) (λ e f. left_leaf) x i b

inner : (x : ℕ) (u : Bool) → IsInternal x → In small_born x → small_opening.holds x ≡ false → IsInternal (small_child x u)
    → InsideOf (small_key (small_child x u)) (small_key x) u
inner x true i b = by_nodes (λ v. small_opening.holds v ≡ false → IsInternal (small_child v true) → InsideOf (small_key (small_child v true)) (small_key v) true)
    (λ e. absurd (false≢true (sym e))) (λ e f. absurd (let h : ◌≡◌ {A = ℕ} 2 0 = f in omega arith)) x i b
inner x false i b = by_nodes (λ v. small_opening.holds v ≡ false → IsInternal (small_child v false) → InsideOf (small_key (small_child v false)) (small_key v) false)
    (λ e. absurd (false≢true (sym e))) (λ e f. absurd (let h : ◌≡◌ {A = ℕ} 1 0 = f in omega arith)) x i b

pub small_trie : IsTrie (In small_born) small_opening small_key small_child
small_trie = record {
  start = refl;
  closed = closed;
  plain = plain;
  deeper = deeper;
  few = λ x i e. omega arith;
  small = λ x i b. by_nodes (λ v. small_opening.holds v ≡ false → small_key v < 2 ^ 64) (λ e. omega arith) (λ e. omega arith) x i b;
  leaf = leaf;
  inner = inner;
}

-- which nodes are reached, in which ranges
data Place : ℕ → ℕ → ℕ → Type 0 where
  at_root : Place 0 0 64
  at_right : Place 2 32 64
  at_inner : Place 4 0 32
  at_three : Place 5 0 4
  at_six : Place 6 4 32

step : (x low high : ℕ) (u : Bool) → Place x low high → IsInternal x → Place (small_child x u) (low_of u low (small_key x)) (high_of u high (small_key x))
step _ _ _ true at_root i = at_right
step _ _ _ false at_root i = at_inner
step _ _ _ true at_inner i = at_six
step _ _ _ false at_inner i = at_three
step _ _ _ u at_right i = absurd (let h : ◌≡◌ {A = ℕ} 2 0 = i in omega arith)
step _ _ _ u at_three i = absurd (let h : ◌≡◌ {A = ℕ} 1 0 = i in omega arith)
step _ _ _ u at_six i = absurd (let h : ◌≡◌ {A = ℕ} 2 0 = i in omega arith)

same_place : {x y a b c d : ℕ} → y ≡ x → c ≡ a → d ≡ b → Place x a b → Place y c d
same_place {x = x} {y = y} {a = a} {b = b} {c = c} {d = d} e f g place =
    subst (λ v. Place v c d) (sym e) (subst (λ v. Place x v d) (sym f) (subst (Place x a) (sym g) place))

places : {x low high : ℕ} → Spans small_key small_child 64 x low high → Place x low high
places (root e f g) = same_place e f g at_root
places (goes u r i e f g) = same_place e f g (step _ _ _ u (places r) i)

within : (x low high : ℕ) → Place x low high → (low ≤ small_key x) × (small_key x < high)
within _ _ _ at_root = (omega arith, omega arith)
within _ _ _ at_right = (omega arith, omega arith)
within _ _ _ at_inner = (omega arith, omega arith)
within _ _ _ at_three = (omega arith, omega arith)
within _ _ _ at_six = (omega arith, omega arith)

proper : (x low high : ℕ) → Place x low high → IsInternal x → low < small_key x
proper _ _ _ at_root i = omega arith
proper _ _ _ at_right i = absurd (let h : ◌≡◌ {A = ℕ} 2 0 = i in omega arith)
proper _ _ _ at_inner i = omega arith
proper _ _ _ at_three i = omega arith
proper _ _ _ at_six i = omega arith

rising : (x low high : ℕ) (u : Bool) → Place x low high → IsInternal x → x < small_child x u
rising _ _ _ true at_root i = omega arith
rising _ _ _ false at_root i = omega arith
rising _ _ _ true at_inner i = omega arith
rising _ _ _ false at_inner i = omega arith
rising _ _ _ u at_right i = absurd (let h : ◌≡◌ {A = ℕ} 2 0 = i in omega arith)
rising _ _ _ u at_three i = absurd (let h : ◌≡◌ {A = ℕ} 1 0 = i in omega arith)
rising _ _ _ u at_six i = absurd (let h : ◌≡◌ {A = ℕ} 2 0 = i in omega arith)

pub small_order : IsInOrder small_key small_child 64
small_order = (
  λ x. x,
  record {
    within = λ x low high r. within x low high (places r);
    proper = λ x low high r i. proper x low high (places r) i;
    rising = λ x low high u r i. rising x low high u (places r) i;
  },
)

-- the insert of 7 above leaf 6
others_seven : (x : ℕ) (u : Bool) → ((x ≡ 4) × (u ≡ true)) ⊎ (with_seven x u ≡ small_child x u)
others_seven x false = inr refl
others_seven x true = elim (cases_eq x 4) [
  | inl e ↦ inl (e, refl)
  | inr e ↦ inr (ap (λ b. if b then 12 else small_child x true) (ne_eqb x 4 e))
]

at_four : Spans small_key small_child 64 4 0 32
at_four = goes false (root refl refl refl) refl refl refl refl

pub small_insert_above_leaf : InsertAbove (In small_born) small_opening small_key small_child with_seven 64 4 true 6 12 true 14 7
small_insert_above_leaf = record {
  shape = record {
    relinks = record { there = refl; others = others_seven };
    was = refl;
    from = refl;
    node = refl;
    outer = λ e. let h : ◌≡◌ {A = ℕ} 2 0 = e in omega arith;
    beside = refl;
    below = refl;
    has = refl;
    small = omega arith;
    old_plain = refl;
    new_plain = refl;
    leaf_plain = refl;
    fresh = λ e. false≢true e;
    fresh_leaf = λ e. false≢true e;
  };
  there = record { low = 0; high = 32; spans = at_four };
  course = ordinary (here at_four (omega arith) (omega arith));
  inside = λ e. record { block = record { bit = 2; place = 0 }; middle = refl; inside = record { from = omega arith; before = omega arith } };
  toward = refl;
  lacks = λ inner. absurd (let h : ◌≡◌ {A = ℕ} 2 0 = inner in omega arith);
  parts = record {
    block = record { bit = 0; place = 3 };
    middle = refl;
    parts = record {
      lower = record { from = omega arith; before = omega arith };
      upper = record { from = omega arith; before = omega arith };
    };
  };
}

-- the insert of 12 above node 4
others : (x : ℕ) (u : Bool) → ((x ≡ 0) × (u ≡ false)) ⊎ (with_twelve x u ≡ small_child x u)
others x true = inr refl
others x false = elim (cases_eq x 0) [
  | inl e ↦ inl (e, refl)
  | inr e ↦ inr (ap (λ b. if b then 8 else small_child x false) (ne_eqb x 0 e))
]

pub small_insert : InsertAbove (In small_born) small_opening small_key small_child with_twelve 64 0 false 4 8 true 10 12
small_insert = record {
  shape = record {
    relinks = record { there = refl; others = others };
    was = refl;
    from = refl;
    node = refl;
    outer = λ e. let h : ◌≡◌ {A = ℕ} 2 0 = e in omega arith;
    beside = refl;
    below = refl;
    has = refl;
    small = omega arith;
    old_plain = refl;
    new_plain = refl;
    leaf_plain = refl;
    fresh = λ e. false≢true e;
    fresh_leaf = λ e. false≢true e;
  };
  there = record { low = 0; high = 64; spans = root refl refl refl };
  course = ordinary (here (root refl refl refl) (omega arith) (omega arith));
  inside = λ e. absurd (false≢true (sym e));
  toward = refl;
  lacks = λ inner. not_in_block (record { bit = 2; place = 0 }) 12 (λ inside. (let before = inside.before in omega arith));
  parts = record {
    block = record { bit = 3; place = 0 };
    middle = refl;
    parts = record {
      lower = record { from = omega arith; before = omega arith };
      upper = record { from = omega arith; before = omega arith };
    };
  };
}

-- 3 is not in the block of 6
pub greater_is_none : ¬ IsTrie (In small_born) small_opening greater_key small_child
greater_is_none trie =
    let h : InHalfOf 6 false 3 = trie.leaf 4 false refl refl refl (λ e. (let h : ◌≡◌ {A = ℕ} 1 0 = e in omega arith)) in
    not_in_block (record { bit = 1; place = 1 }) 3 (λ inside. (let from = inside.from in omega arith)) (half_there h)
