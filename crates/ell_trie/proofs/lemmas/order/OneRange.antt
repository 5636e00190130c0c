use Rattle.std.proofs.Common.{◌≡◌, ℕ, zero, suc, ◌%◌, ◌<◌, ◌≤◌, Bool, nat_le, refl, sym, ap, ◌∙◌, subst, inl, inr, arith}
use Rattle.std.proofs.lemmas.Bool.{cases_order, cases_lt}
use Rattle.ell_word.specs.Node.{IsInternal}
use Rattle.ell_trie.specs.Ranges.{low_of, high_of, Spans, root, goes, IsOrdered}
use Rattle.ell_trie.proofs.lemmas.order.Bounds.{child_within, side_of}

-- a node with its range
pub record Place : Type 0 where
  pub node : ℕ
  pub low : ℕ
  pub high : ℕ

module _ (key : ℕ → ℕ) (child : ℕ → Bool → ℕ) (top : ℕ) where
  -- the next place on the walk for a key
  abbrev move : ℕ → Place → Place
  move k w = record {
    node = child w.node (nat_le (key w.node) k);
    low = low_of (nat_le (key w.node) k) w.low (key w.node);
    high = high_of (nat_le (key w.node) k) w.high (key w.node);
  }

  -- the place after so many moves from node 0
  walk : ℕ → ℕ → Place
  walk k zero = record { node = 0; low = 0; high = top }
  walk k (suc n) = move k (walk k n)

  at_start : (k : ℕ) → walk k 0 ≡ record { node = 0; low = 0; high = top }
  unfolding walk
  at_start k = refl

  at_next : (k n : ℕ) → walk k (suc n) ≡ move k (walk k n)
  unfolding walk
  at_next k n = refl

  -- the first places of a walk are internal nodes
  abbrev Inner : ℕ → ℕ → Type 0
  Inner k n = (m : ℕ) → m < n → IsInternal (walk k m).node

  module _ {rank : ℕ → ℕ} (ordered : IsOrdered key child top rank) where
    -- the walk for a key comes to a node with this range
    abbrev IsPlace : ℕ → ℕ → ℕ → ℕ → Type 0
    IsPlace k x low high = (n : ℕ) × (walk k n ≡ record { node = x; low = low; high = high }) × Inner k n

    inner_more : (k n : ℕ) → Inner k n → IsInternal (walk k n).node → Inner k (suc n)
    inner_more k n h i m c = elim (cases_order m n) [
      | inl e ↦ subst (λ v. IsInternal (walk k v).node) (sym e) i
      | inr o ↦ h m (omega arith)
    ]

    on_walk : {x low high : ℕ} (k : ℕ) → Spans key child top x low high → low ≤ k → k < high → IsPlace k x low high
    on_walk k (root a b c) d e = (0, at_start k ∙ cc, λ m h. absurd (omega arith))
    on_walk k (goes {x = x} {low = low} {high = high} t r i e f g) d h =
        let w = child_within key child top ordered x low high t r in
        let v = on_walk k r (omega arith) (omega arith) in
        let s = side_of key child top ordered (key x) k low high t (omega arith) (omega arith) in
        let u : move k (record { node = x; low = low; high = high }) ≡ record { node = _; low = _; high = _ } = cc in
        (suc v.0, at_next k v.0 ∙ (ap (move k) v.1 ∙ u), inner_more k v.0 v.2 (ap (λ p. p.node % 4) v.1 ∙ i))

    walk_spans : (k n : ℕ) → Inner k n → Spans key child top (walk k n).node (walk k n).low (walk k n).high
    walk_spans k zero h = let e = at_start k in root (ap (λ p. p.node) e) (ap (λ p. p.low) e) (ap (λ p. p.high) e)
    walk_spans k (suc n) h =
        let e = at_next k n in
        goes (nat_le (key (walk k n).node) k) (walk_spans k n (λ m c. h m (omega arith))) (h n (omega arith))
        (ap (λ p. p.node) e) (ap (λ p. p.low) e) (ap (λ p. p.high) e)

    walk_step : (k n : ℕ) → Inner k (suc n) → rank (walk k n).node < rank (walk k (suc n)).node
    walk_step k n h =
        let place = walk_spans k n (λ m c. h m (omega arith)) in
        let up = ordered.rising _ _ _ (nat_le (key (walk k n).node) k) place (h n (omega arith)) in
        omega (arith, ap (λ p. rank p.node) (at_next k n))

    walk_rises : (k m n : ℕ) → m < n → Inner k n → rank (walk k m).node < rank (walk k n).node
    walk_rises k m zero c h = absurd (omega arith)
    walk_rises k m (suc n) c h =
        let one = walk_step k n h in
        elim (cases_order m n) [
          | inl e ↦ subst (λ v. rank (walk k v).node < rank (walk k (suc n)).node) (sym e) one
          | inr o ↦ (let more = walk_rises k m n (omega arith) (λ j b. h j (omega arith)) in omega arith)
        ]

    same_place : {x a b c d : ℕ} (k m n : ℕ) → m ≡ n → walk k m ≡ record { node = x; low = a; high = b }
        → walk k n ≡ record { node = x; low = c; high = d } → (a ≡ c) × (b ≡ d)
    same_place k m n e f g = let h = sym f ∙ (ap (walk k) e ∙ g) in (ap (λ p. p.low) h, ap (λ p. p.high) h)

    -- a reached node has one range
    pub unique : {x a b c d : ℕ} → Spans key child top x a b → Spans key child top x c d → (a ≡ c) × (b ≡ d)
    unique {x = x} {a = a} {b = b} {c = c} {d = d} r q =
        let wr = ordered.within x a b r in
        let wq = ordered.within x c d q in
        let u = on_walk (key x) r wr.0 wr.1 in
        let v = on_walk (key x) q wq.0 wq.1 in
        let i = ap (λ p. rank p.node) u.1 in
        let j = ap (λ p. rank p.node) v.1 in
        elim (cases_order u.0 v.0) [
          | inl e ↦ same_place (key x) u.0 v.0 e u.1 v.1
          | inr (inl o) ↦ (let up = walk_rises (key x) u.0 v.0 o v.2 in absurd (omega arith))
          | inr (inr o) ↦ (let up = walk_rises (key x) v.0 u.0 o u.2 in absurd (omega arith))
        ]

    node_order : (k m n : ℕ) → m ≤ n → Inner k n → rank (walk k m).node ≤ rank (walk k n).node
    node_order k m n c h = elim (cases_order m n) [
      | inl e ↦ subst (λ v. rank (walk k m).node ≤ rank (walk k v).node) e (omega arith)
      | inr (inl o) ↦ (let up = walk_rises k m n o h in omega arith)
      | inr (inr o) ↦ absurd (omega arith)
    ]

    -- no node on the walk for k lies between g and the next one
    pub no_between : {x g w a b c d : ℕ} (k : ℕ) → Spans key child top x a b → a ≤ k → k < b → Spans key child top g c d
        → c ≤ k → k < d → IsInternal g → w ≡ child g (nat_le (key g) k) → rank x < rank w → rank x ≤ rank g
    no_between {x = x} {g = g} {w = w} k r a1 a2 q b1 b2 i e up =
        let u = on_walk k r a1 a2 in
        let v = on_walk k q b1 b2 in
        let ux = ap (λ p. rank p.node) u.1 in
        let vg = ap (λ p. rank p.node) v.1 in
        elim (cases_lt v.0 u.0) [
          | inl o ↦
              let h = node_order k (suc v.0) u.0 (omega arith) u.2 in
              let f = ap (λ p. rank p.node) (at_next k v.0 ∙ ap (move k) v.1) in
              let to = ap rank e in
              absurd (omega arith)
          | inr o ↦ (let h = node_order k u.0 v.0 o v.2 in omega arith)
        ]

    -- one leaf is on the walk for k
    pub two_leaves : {x y a b c d : ℕ} (k : ℕ) → Spans key child top x a b → a ≤ k → k < b → ¬ IsInternal x
        → Spans key child top y c d → c ≤ k → k < d → ¬ IsInternal y → x ≡ y
    two_leaves {x = x} {y = y} k r a1 a2 hx q b1 b2 hy =
        let u = on_walk k r a1 a2 in
        let v = on_walk k q b1 b2 in
        let ux = ap (λ p. p.node) u.1 in
        let vy = ap (λ p. p.node) v.1 in
        elim (cases_order u.0 v.0) [
          | inl e ↦ sym ux ∙ (ap (λ n. (walk k n).node) e ∙ vy)
          | inr (inl o) ↦ absurd (hx (ap (λ n. n % 4) (sym ux) ∙ v.2 u.0 o))
          | inr (inr o) ↦ absurd (hy (ap (λ n. n % 4) (sym vy) ∙ u.2 v.0 o))
        ]
