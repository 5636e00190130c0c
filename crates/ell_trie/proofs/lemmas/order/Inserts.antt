use Rattle.std.proofs.Common.{◌≡◌, ◌≢◌, ℕ, ◌%◌, ◌<◌, ◌≤◌, Bool, true, false, nat_le, refl, sym, ap, ◌∙◌, subst, inl, inr, ◌⊎◌, ◌↔◌, arith}
use Rattle.ell_word.specs.Node.{IsInternal}
use Rattle.ell_trie.specs.Ranges.{next_node, low_of, high_of, Spans, root, goes, FindsLeaf, at_leaf, below, IsOrdered, Relinked}
use Rattle.ell_trie.proofs.lemmas.order.Bounds.{leaf_key, leaf_holds, Meets-up, Meets-down}

-- the shape of the change: the child of p on the side s, a leaf l, becomes the internal node q, whose leaves have the keys
-- of l and k
pub record Inserts (rank key : ℕ → ℕ) (child after : ℕ → Bool → ℕ) (top p : ℕ) (s : Bool) (l q k : ℕ) : Type 0 where
  pub relinks : Relinked child after p s q
  pub was : child p s ≡ l
  pub leaf : ¬ IsInternal l
  pub node : IsInternal q
  pub leaves : (t : Bool) → ¬ IsInternal (child q t)
  pub apart : p ≢ q
  pub rises : rank p < rank q
  pub above : (t : Bool) → rank q < rank (child q t)
  -- the keys of the new nodes
  pub left_low : key (child q false) < key q
  pub right_high : key (child q true) ≡ key q
  pub old_key : key (next_node key child (key l) q) ≡ key l
  pub new_key : key (next_node key child k q) ≡ k
  pub only : (t : Bool) → (key (child q t) ≡ key l) ⊎ (key (child q t) ≡ k)
  -- k leads to l
  pub leads : (low high : ℕ) → Spans key child top l low high → (low ≤ k) × (k < high)

-- what is new afterwards: the new node, and its leaves
pub data New (key : ℕ → ℕ) (child : ℕ → Bool → ℕ) (top l q : ℕ) : ℕ → ℕ → ℕ → Type 0 where
  new_node : {z low high : ℕ} → z ≡ q → Spans key child top l low high → New key child top l q z low high
  new_leaf : {z low high a b : ℕ} (t : Bool) → z ≡ child q t → Spans key child top l low high
      → a ≡ low_of t low (key q) → b ≡ high_of t high (key q) → New key child top l q z a b

module _ {rank : ℕ → ℕ} (key : ℕ → ℕ) (child after : ℕ → Bool → ℕ) (top p : ℕ) (s : Bool) (l q k : ℕ)
    (shape : Inserts rank key child after top p s l q k) where
  insert_step : (x low high y a b : ℕ) (t : Bool) → Spans key child top x low high ⊎ New key child top l q x low high
      → IsInternal x → y ≡ after x t → a ≡ low_of t low (key x) → b ≡ high_of t high (key x)
      → Spans key child top y a b ⊎ New key child top l q y a b
  insert_step x low high y a b t (inl r) i e f g = elim (shape.relinks.others x t) [
    | inl h ↦ inr (new_node (cc) (goes t r i (cc) f g))
    | inr h ↦ inl (goes t r i (cc) f g)
  ]
  insert_step x low high y a b t (inr (new_node h r)) i e f g = elim (shape.relinks.others x t) [
    | inl d ↦ absurd (shape.apart (cc))
    | inr d ↦ inr (new_leaf t (cc) r (cc) (cc))
  ]
  insert_step x low high y a b t (inr (new_leaf u h r _ _)) i e f g = absurd (shape.leaves u (cc))

  -- what is reached afterwards
  pub Spans-insert : {z low high : ℕ} → Spans key after top z low high
      → Spans key child top z low high ⊎ New key child top l q z low high
  Spans-insert (root a b c) = inl (root a b c)
  Spans-insert (goes t r i e f g) = insert_step _ _ _ _ _ _ t (Spans-insert r) i e f g

  -- what was reached before still is, but for l
  pub Spans-stays : {z low high : ℕ} → Spans key child top z low high → (z ≡ l) ⊎ Spans key after top z low high
  Spans-stays (root a b c) = inr (root a b c)
  Spans-stays (goes {x = x} t r i e f g) = elim (shape.relinks.others x t) [
    | inl h ↦ inl (e ∙ subst (λ v. child v t ≡ l) (sym h.0) (subst (λ u. child p u ≡ l) (sym h.1) shape.was))
    | inr h ↦ elim (Spans-stays r) [ inl d ↦ absurd (shape.leaf (cc)) | inr d ↦ inr (goes t d i (e ∙ sym h) f g) ]
  ]

  module _ (ordered : IsOrdered key child top rank) where
    new_within : (z low high : ℕ) → New key child top l q z low high → (low ≤ key z) × (key z < high)
    new_within z low high (new_node e r) =
        let a = shape.only true in let b = shape.only false in let c = shape.left_low in let d = shape.right_high in
        let w = ordered.within l low high r in let v = shape.leads low high r in let u = ap key e in
        (omega arith, omega arith)
    new_within z low high (new_leaf {low = from} {high = until} true e r f g) =
        let a = shape.only true in let d = shape.right_high in
        let w = ordered.within l from until r in let v = shape.leads from until r in let u = ap key e in
        (omega arith, omega arith)
    new_within z low high (new_leaf {low = from} {high = until} false e r f g) =
        let b = shape.only false in let c = shape.left_low in
        let w = ordered.within l from until r in let v = shape.leads from until r in let u = ap key e in
        (omega arith, omega arith)

    new_proper : (z low high : ℕ) → New key child top l q z low high → IsInternal z → low < key z
    new_proper z low high (new_node e r) i =
        let b = shape.only false in let c = shape.left_low in
        let w = ordered.within l low high r in let v = shape.leads low high r in let u = ap key e in
        omega arith
    new_proper z low high (new_leaf t e r f g) i = absurd (shape.leaves t (cc))

    new_rises : (z low high : ℕ) (t : Bool) → New key child top l q z low high → IsInternal z → rank z < rank (child z t)
    new_rises z low high t (new_node e r) i = subst (λ v. rank v < rank (child v t)) (sym e) (shape.above t)
    new_rises z low high t (new_leaf u e r f g) i = absurd (shape.leaves u (cc))

    -- the tree stays in order
    pub IsOrdered-insert : IsOrdered key after top rank
    IsOrdered-insert = record {
      within = λ x low high r. elim (Spans-insert r) [
        | inl d ↦ ordered.within x low high d
        | inr d ↦ new_within x low high d
      ];
      proper = λ x low high r i. elim (Spans-insert r) [
        | inl d ↦ ordered.proper x low high d i
        | inr d ↦ new_proper x low high d i
      ];
      rising = λ x low high t r i. elim (shape.relinks.others x t) [
        | inl h ↦ subst (λ v. rank v < rank (after v t)) (sym h.0)
            (subst (λ u. rank p < rank (after p u)) (sym h.1) (subst (λ v. rank p < rank v) (sym shape.relinks.there) shape.rises))
        | inr h ↦ subst (λ v. rank x < rank v) (sym h) (elim (Spans-insert r) [
          | inl d ↦ ordered.rising x low high t d i
          | inr d ↦ new_rises x low high t d i
        ])
      ];
    }

  -- the children of the new node are as before
  kept : (t : Bool) → after q t ≡ child q t
  kept t = elim (shape.relinks.others q t) [ inl h ↦ absurd (shape.apart (sym h.0)) | inr h ↦ h ]

  -- what holds of the old leaf, and of its copy just where it holds of the old leaf
  module _ {holds : ℕ → Type 0} (copy : (t : Bool) → key (child q t) ≡ key l → holds (child q t) ↔ holds l) where
    other_leaf : (j : ℕ) → j ≢ k → (x : ℕ) → x ≡ q → FindsLeaf key after holds j x → (key l ≡ j) × holds l
    other_leaf j ne x a (at_leaf h e p) = absurd (h (ap (λ v. v % 4) a ∙ shape.node))
    other_leaf j ne x a (below i e (at_leaf h d p)) =
        let t = nat_le (key x) j in
        let same = sym (kept t) ∙ (ap (λ v. after v t) (sym a) ∙ sym e) in
        let g : key (child q t) ≡ j = ap key same ∙ d in
        elim (shape.only t) [ inl h ↦ (sym h ∙ g, (copy t h).0 (subst holds (sym same) p)) | inr h ↦ absurd (ne (sym g ∙ h)) ]
    other_leaf j ne x a (below i e (below h d _)) =
        let t = nat_le (key x) j in
        let same = sym (kept t) ∙ (ap (λ v. after v t) (sym a) ∙ sym e) in
        absurd (shape.leaves t (ap (λ v. v % 4) same ∙ h))

    -- the leaf of the new node on a key's side has the key, and so it is met there
    new_met : (j : ℕ) → key (next_node key child j q) ≡ j → holds (next_node key child j q) → FindsLeaf key after holds j q
    new_met j e p =
        let t = nat_le (key q) j in
        below shape.node refl (at_leaf (λ h. shape.leaves t (ap (λ v. v % 4) (sym (kept t)) ∙ h)) (ap key (kept t) ∙ e) (subst holds (sym (kept t)) p))

    copied : (j : ℕ) → key l ≡ j → holds l → FindsLeaf key after holds j q
    copied j e p =
        let has : key (next_node key child j q) ≡ j = subst (λ v. key (child q (nat_le (key q) v)) ≡ v) e shape.old_key in
        new_met j has ((copy (nat_le (key q) j) (has ∙ sym e)).1 p)

    -- every other key is met from x as before
    pub Meets-inserted : (j : ℕ) → j ≢ k → {x : ℕ} → FindsLeaf key child holds j x → FindsLeaf key after holds j x
    Meets-inserted j ne (at_leaf h e p) = at_leaf h e p
    Meets-inserted j ne (below {x = x} {y = y} i e f) = elim (shape.relinks.others x (nat_le (key x) j)) [
      | inl h ↦
          let at_l : FindsLeaf key child holds j l = subst (FindsLeaf key child holds j) (cc) f in
          let was : key l ≡ j = leaf_key key child j l shape.leaf at_l in
          below i refl (subst (FindsLeaf key after holds j) (cc) (copied j was (leaf_holds key child j l shape.leaf at_l)))
      | inr h ↦ below i (cc) (Meets-inserted j ne f)
    ]

    -- and no other was met
    pub Meets-before : (j : ℕ) → j ≢ k → {x : ℕ} → FindsLeaf key after holds j x → FindsLeaf key child holds j x
    Meets-before j ne (at_leaf h e p) = at_leaf h e p
    Meets-before j ne (below {x = x} {y = y} i e f) = elim (shape.relinks.others x (nat_le (key x) j)) [
      | inl h ↦
          let had = other_leaf j ne y (cc) f in
          below i refl (subst (FindsLeaf key child holds j) (cc) (at_leaf shape.leaf had.0 had.1))
      | inr h ↦ below i (cc) (Meets-before j ne f)
    ]

  module _ (ordered : IsOrdered key child top rank) (low high : ℕ) (reached : Spans key child top p low high)
      (internal : IsInternal p)
      (from : low_of s low (key p) ≤ k) (until : k < high_of s high (key p)) {holds : ℕ → Type 0} where
    -- the key of the new leaf is met afterwards
    pub Meets-new : holds (next_node key child k q) → FindsLeaf key after holds k 0
    Meets-new that = elim (Spans-stays reached) [
      | inl h ↦ absurd (shape.leaf (cc))
      | inr r ↦
          let q_spans = goes s r internal (sym shape.relinks.there) refl refl in
          Meets-up key after top (IsOrdered-insert ordered) q_spans from until (below shape.node refl (new_leaf_met that))
    ]
      where
        new_leaf_met : holds (child q (nat_le (key q) k)) → FindsLeaf key after holds k (after q (nat_le (key q) k))
        new_leaf_met p = at_leaf (λ h. shape.leaves (nat_le (key q) k) (ap (λ v. v % 4) (sym (kept (nat_le (key q) k))) ∙ h))
            (ap key (kept (nat_le (key q) k)) ∙ shape.new_key) (subst holds (sym (kept (nat_le (key q) k))) p)

    -- and was not before
    pub absent_before : key l ≢ k → ¬ FindsLeaf key child holds k 0
    absent_before ne f =
        let l_spans = goes s reached internal (sym shape.was) refl refl in
        ne (leaf_key key child k l shape.leaf (Meets-down key child top ordered l_spans from until f))
