use Rattle.std.proofs.Common.{◌≡◌, ◌≢◌, ℕ, ◌<◌, ◌≤◌, Bool, true, false, not, nat_le, refl, sym, ap, ◌∙◌, subst, inl, inr, ◌⊎◌, arith}
use Rattle.ell_word.specs.Node.{IsInternal}
use Rattle.ell_trie.specs.Ranges.{low_of, high_of, Spans, root, goes, FindsLeaf, at_leaf, below, IsOrdered, Relinked}
use Rattle.ell_trie.proofs.lemmas.order.Bounds.{leaf_key, Meets-down, Meets-within, child_within, side_of, below_of, leaf_is_met}

-- a side is another or it is not
pub same_or_not : (u t : Bool) → (u ≡ t) ⊎ (u ≡ not t)
same_or_not true true = inl refl
same_or_not true false = inr refl
same_or_not false true = inr refl
same_or_not false false = inl refl

-- the two children of a node share no key
disjoint : (t : Bool) (m low high k : ℕ) → low_of t low m ≤ k → k < high_of t high m
    → low_of (not t) low m ≤ k → k < high_of (not t) high m → ⊥
disjoint true m low high k a b c d = omega arith
disjoint false m low high k a b c d = omega arith

-- the shape of the change: the child of g on the side s, p, becomes the child w of p on the side t; the other child of p is
-- the leaf l
pub record Removes (key : ℕ → ℕ) (child after : ℕ → Bool → ℕ) (top g : ℕ) (s : Bool) (p : ℕ) (t : Bool) (l w : ℕ)
    : Type 0 where
  pub relinks : Relinked child after g s w
  pub parent : child g s ≡ p
  pub node : IsInternal g
  pub inner : IsInternal p
  pub leaf : ¬ IsInternal l
  pub leaf_there : child p (not t) ≡ l
  pub other : child p t ≡ w

module _ (key : ℕ → ℕ) (child after : ℕ → Bool → ℕ) (top g : ℕ) (s : Bool) (p : ℕ) (t : Bool) (l w : ℕ)
    (shape : Removes key child after top g s p t l w) {rank : ℕ → ℕ} (ordered : IsOrdered key child top rank) where
  low_mono : (u : Bool) (a b m : ℕ) → a ≤ b → low_of u a m ≤ low_of u b m
  low_mono true a b m h = omega arith
  low_mono false a b m h = h

  high_mono : (u : Bool) (a b m : ℕ) → a ≤ b → high_of u a m ≤ high_of u b m
  high_mono true a b m h = h
  high_mono false a b m h = omega arith

  -- what was reached before, in a range at most as wide
  pub record Tighter (z low high : ℕ) : Type 0 where
    pub a : ℕ
    pub b : ℕ
    pub reached : Spans key child top z a b
    pub lower : low ≤ a
    pub upper : b ≤ high

  remove_step : (x low high y c d : ℕ) (u : Bool) → Tighter x low high → IsInternal x → y ≡ after x u
      → c ≡ low_of u low (key x) → d ≡ high_of u high (key x) → Tighter y c d
  remove_step x low high y c d u v i e f h =
      let lm = low_mono u low v.a (key x) v.lower in
      let hm = high_mono u v.b high (key x) v.upper in
      elim (shape.relinks.others x u) [
        | inl o ↦
            let r : Spans key child top p (low_of u v.a (key x)) (high_of u v.b (key x)) =
            goes u v.reached i (cc) refl refl in
            let n = child_within key child top ordered p (low_of u v.a (key x)) (high_of u v.b (key x)) t r in
            record {
              a = low_of t (low_of u v.a (key x)) (key p);
              b = high_of t (high_of u v.b (key x)) (key p);
              reached = goes t r shape.inner (cc) refl refl;
              lower = omega arith;
              upper = omega arith;
            }
        | inr o ↦ record {
          a = low_of u v.a (key x);
          b = high_of u v.b (key x);
          reached = goes u v.reached i (e ∙ o) refl refl;
          lower = omega arith;
          upper = omega arith;
        }
      ]

  -- what is reached afterwards
  pub Spans-remove : {z low high : ℕ} → Spans key after top z low high → Tighter z low high
  Spans-remove {low = low} {high = high} (root e f h) =
      record { a = low; b = high; reached = root e f h; lower = omega arith; upper = omega arith }
  Spans-remove (goes u r i e f h) = remove_step _ _ _ _ _ _ u (Spans-remove r) i e f h

  -- the tree stays in order
  pub IsOrdered-remove : IsOrdered key after top rank
  IsOrdered-remove = record {
    within = λ x low high r.
        let v = Spans-remove r in let b = ordered.within x v.a v.b v.reached in (omega arith, omega arith);
    proper = λ x low high r i. let v = Spans-remove r in let b = ordered.proper x v.a v.b v.reached i in omega arith;
    rising = λ x low high u r i. let v = Spans-remove r in elim (shape.relinks.others x u) [
      | inl o ↦
          let k = ordered.rising x v.a v.b u v.reached i in
          let q = goes u v.reached i (sym (ap (λ v. child v u) o.0 ∙ (ap (child g) o.1 ∙ shape.parent))) refl refl in
          let j = ordered.rising p _ _ t q shape.inner in
          let there = shape.relinks.there in
          let same = ap (λ v. child v u) o.0 ∙ (ap (child g) o.1 ∙ shape.parent) in
          let o2 = ap rank shape.other in let t2 = ap rank there in let s2 = ap rank same in
          let up : rank x < rank (after g s) = omega arith in
          subst (λ n. rank x < rank (after n u)) (sym o.0) (subst (λ n. rank x < rank (after g n)) (sym o.1) up)
      | inr o ↦ subst (λ n. rank x < rank n) (sym o) (ordered.rising x v.a v.b u v.reached i)
    ];
  }

  -- what is reached afterwards, in a range at least as wide
  pub record Wider (z low high : ℕ) : Type 0 where
    pub a : ℕ
    pub b : ℕ
    pub reached : Spans key after top z a b
    pub lower : a ≤ low
    pub upper : high ≤ b

  -- what was reached before still is, in a range at least as wide, but for p and l; where p was, w is
  pub data Left (z low high : ℕ) : Type 0 where
    stays : Wider z low high → Left z low high
    was_p : z ≡ p → Wider w low high → Left z low high
    was_l : z ≡ l → Left z low high

  left_step : (x low high y c d : ℕ) (u : Bool) → Spans key child top x low high → Left x low high → IsInternal x
      → y ≡ child x u → c ≡ low_of u low (key x) → d ≡ high_of u high (key x) → Left y c d
  left_step x low high y c d u r (stays v) i e f h =
      let lm = low_mono u v.a low (key x) v.lower in
      let hm = high_mono u high v.b (key x) v.upper in
      elim (shape.relinks.others x u) [
        | inl o ↦ was_p (cc) record {
          a = low_of u v.a (key x);
          b = high_of u v.b (key x);
          reached = goes u v.reached i (cc) refl refl;
          lower = omega arith;
          upper = omega arith;
        }
        | inr o ↦ stays record {
          a = low_of u v.a (key x);
          b = high_of u v.b (key x);
          reached = goes u v.reached i (cc) refl refl;
          lower = omega arith;
          upper = omega arith;
        }
      ]
  left_step x low high y c d u r (was_p q v) i e f h =
      let n = child_within key child top ordered x low high u r in
      elim (same_or_not u t) [
        | inl o ↦ stays record {
          a = v.a;
          b = v.b;
          reached = subst (λ n. Spans key after top n v.a v.b) (cc) v.reached;
          lower = omega arith;
          upper = omega arith;
        }
        | inr o ↦ was_l (cc)
      ]
  left_step x low high y c d u r (was_l q) i e f h = absurd (shape.leaf (cc))

  -- what was reached before, afterwards
  pub Spans-left : {z low high : ℕ} → Spans key child top z low high → Left z low high
  Spans-left {low = low} {high = high} (root e f h) =
      stays record { a = low; b = high; reached = root e f h; lower = omega arith; upper = omega arith }
  Spans-left (goes u r i e f h) = left_step _ _ _ _ _ _ u r (Spans-left r) i e f h

  -- every key but that of l is met from x as before
  pub Meets-removed : {holds : ℕ → Type 0} (j : ℕ) → j ≢ key l → {x : ℕ} → FindsLeaf key child holds j x → FindsLeaf key after holds j x
  Meets-removed j ne (at_leaf h e p) = at_leaf h e p
  Meets-removed j ne (below {x = x} i e (at_leaf h d p)) = elim (shape.relinks.others x (nat_le (key x) j)) [
    | inl o ↦ absurd (h (cc))
    | inr o ↦ below i (cc) (at_leaf h d p)
  ]
  Meets-removed {holds = holds} j ne (below {x = x} i e (below {x = y} {y = z} h d f)) =
      elim (shape.relinks.others x (nat_le (key x) j)) [
        | inl o ↦ elim (same_or_not (nat_le (key y) j) t) [
          | inl u ↦ below i refl (subst (FindsLeaf key after holds j) (cc) (Meets-removed j ne f))
          | inr u ↦ absurd (ne (sym (leaf_key key child j l shape.leaf (subst (FindsLeaf key child holds j) (cc) f))))
        ]
        | inr o ↦ below i (cc) (Meets-removed j ne (below h d f))
      ]

  -- where g is reached
  module _ (low high : ℕ) (reached : Spans key child top g low high) where
    p_spans : Spans key child top p (low_of s low (key g)) (high_of s high (key g))
    p_spans = goes s reached shape.node (sym shape.parent) refl refl

    w_spans : Spans key child top w (low_of t (low_of s low (key g)) (key p)) (high_of t (high_of s high (key g)) (key p))
    w_spans = goes t p_spans shape.inner (sym shape.other) refl refl

    l_spans : Spans key child top l (low_of (not t) (low_of s low (key g)) (key p))
        (high_of (not t) (high_of s high (key g)) (key p))
    l_spans = goes (not t) p_spans shape.inner (sym shape.leaf_there) refl refl

    -- and no other was met
    pub Meets-kept : {holds : ℕ → Type 0} (j : ℕ) → j ≢ key l → {x : ℕ} → FindsLeaf key after holds j x → FindsLeaf key child holds j x
    Meets-kept j ne (at_leaf h e p) = at_leaf h e p
    Meets-kept {holds = holds} j ne (below {x = x} i e f) = elim (shape.relinks.others x (nat_le (key x) j)) [
      | inl o ↦
          let f2 : FindsLeaf key child holds j w = subst (FindsLeaf key child holds j) (cc) (Meets-kept j ne f) in
          let v = Meets-within key child top ordered f2 w_spans in
          let d : nat_le (key p) j ≡ t = side_of key child top ordered (key p) j _ _ t v.0 v.1 in
          below {y = p} i (cc) (below {y = w} shape.inner (cc) f2)
      | inr o ↦ below i (cc) (Meets-kept j ne f)
    ]

    -- below g all children are as they were
    frame : {holds : ℕ → Type 0} (j : ℕ) {x : ℕ} {a b : ℕ} → Spans key child top x a b → rank g < rank x → FindsLeaf key after holds j x → FindsLeaf key child holds j x
    frame j r c (at_leaf h e p) = at_leaf h e p
    frame j {x} {a} {b} r c (below {y = y} i e f) = elim (shape.relinks.others x (nat_le (key x) j)) [
      | inl o ↦ absurd (let same = ap rank o.0 in omega arith)
      | inr o ↦
          let up = ordered.rising x a b (nat_le (key x) j) r i in
          let q : y ≡ child x (nat_le (key x) j) = e ∙ o in
          let q2 = ap rank q in
          below i q (frame j (goes (nat_le (key x) j) r i q refl refl) (omega arith) f)
    ]

    -- the key of l is met no longer
    pub gone : {holds : ℕ → Type 0} → ¬ FindsLeaf key after holds (key l) 0
    gone f =
        let b = ordered.within l _ _ l_spans in
        let in_p = child_within key child top ordered p _ _ (not t) p_spans in
        let in_g = child_within key child top ordered g low high s reached in
        let up = ordered.rising g low high s reached shape.node in
        let up2 = ordered.rising p _ _ t p_spans shape.inner in
        let side : nat_le (key g) (key l) ≡ s =
        side_of key child top ordered (key g) (key l) low high s (omega arith) (omega arith) in
        elim (Spans-left reached) [
          | stays v ↦
              let at_g = Meets-down key after top IsOrdered-remove v.reached (omega arith) (omega arith) f in
              let next = sym (ap (after g) side ∙ shape.relinks.there) in
              let at_w = below_of key after top IsOrdered-remove shape.node next at_g in
              let at_w_before = frame (key l) w_spans (omega (arith, ap rank shape.parent, ap rank shape.other)) at_w in
              let c = Meets-within key child top ordered at_w_before w_spans in
              disjoint t (key p) _ _ (key l) c.0 c.1 b.0 b.1
          | was_p e v ↦ absurd (omega (arith, ap rank shape.parent, ap rank e))
          | was_l e ↦ absurd (shape.leaf (cc))
        ]

    -- and was met before
    pub met_before : {holds : ℕ → Type 0} → holds l → FindsLeaf key child holds (key l) 0
    met_before that = leaf_is_met key child top ordered l_spans shape.leaf that
