use Rattle.std.proofs.Common.{◌≡◌, ◌≢◌, ℕ, ◌<◌, ◌≤◌, Bool, nat_le, refl, sym, ap, ◌∙◌, subst, inl, inr, ◌⊎◌}
use Rattle.ell_word.specs.Node.{IsInternal}
use Rattle.ell_trie.specs.Ranges.{low_of, high_of, Spans, root, goes, FindsLeaf, at_leaf, below, IsOrdered, Relinked, OnCourse, here, off, dead}
use Rattle.ell_trie.proofs.lemmas.order.Bounds.{leaf_key, Meets-up}
use Rattle.ell_trie.proofs.lemmas.order.OneRange.{two_leaves}

-- the shape of the change: the child of p on the side s, a leaf l, becomes another leaf q of the same key
pub record Replaces (rank key : ℕ → ℕ) (child after : ℕ → Bool → ℕ) (p : ℕ) (s : Bool) (l q : ℕ) : Type 0 where
  pub relinks : Relinked child after p s q
  pub was : child p s ≡ l
  pub leaf : ¬ IsInternal l
  pub node : ¬ IsInternal q
  pub rises : rank p < rank q
  pub same : key q ≡ key l

module _ {rank : ℕ → ℕ} (key : ℕ → ℕ) (child after : ℕ → Bool → ℕ) (top p : ℕ) (s : Bool) (l q : ℕ)
    (shape : Replaces rank key child after p s l q) where
  replace_step : (x low high y a b : ℕ) (t : Bool) → Spans key child top x low high ⊎ ((x ≡ q) × Spans key child top l low high)
      → IsInternal x → y ≡ after x t → a ≡ low_of t low (key x) → b ≡ high_of t high (key x)
      → Spans key child top y a b ⊎ ((y ≡ q) × Spans key child top l a b)
  replace_step x low high y a b t (inl r) i e f g = elim (shape.relinks.others x t) [
    | inl h ↦ (let there = shape.relinks.there in let was = shape.was in
        inr (
          e ∙ (ap (λ v. after v t) h.0 ∙ (ap (after p) h.1 ∙ there)),
          goes t r i (sym was ∙ (ap (child p) (sym h.1) ∙ ap (λ v. child v t) (sym h.0))) f g,
        ))
    | inr h ↦ inl (goes t r i (e ∙ h) f g)
  ]
  replace_step x low high y a b t (inr h) i e f g = absurd (shape.node (subst IsInternal h.0 i))

  -- what is reached afterwards was before, or is the new leaf in the old one's place
  pub Spans-replace : {z low high : ℕ} → Spans key after top z low high
      → Spans key child top z low high ⊎ ((z ≡ q) × Spans key child top l low high)
  Spans-replace (root a b c) = inl (root a b c)
  Spans-replace (goes t r i e f g) = replace_step _ _ _ _ _ _ t (Spans-replace r) i e f g

  -- what was reached before still is, but for l
  pub Spans-still : {z low high : ℕ} → Spans key child top z low high → (z ≡ l) ⊎ Spans key after top z low high
  Spans-still (root a b c) = inr (root a b c)
  Spans-still (goes {x = x} t r i e f g) = elim (shape.relinks.others x t) [
    | inl h ↦ inl (e ∙ subst (λ v. child v t ≡ l) (sym h.0) (subst (λ u. child p u ≡ l) (sym h.1) shape.was))
    | inr h ↦ elim (Spans-still r) [ inl d ↦ absurd (shape.leaf (subst IsInternal d i)) | inr d ↦ inr (goes t d i (e ∙ sym h) f g) ]
  ]

  -- the tree stays in order
  pub IsOrdered-replace : IsOrdered key child top rank → IsOrdered key after top rank
  IsOrdered-replace ordered = record {
    within = λ x low high r. elim (Spans-replace r) [
      | inl d ↦ ordered.within x low high d
      | inr d ↦ subst (λ v. (low ≤ v) × (v < high)) (sym (ap key d.0 ∙ shape.same)) (ordered.within l low high d.1)
    ];
    proper = λ x low high r i. elim (Spans-replace r) [
      | inl d ↦ ordered.proper x low high d i
      | inr d ↦ absurd (shape.node (subst IsInternal d.0 i))
    ];
    rising = λ x low high t r i. elim (shape.relinks.others x t) [
      | inl h ↦ subst (λ v. rank v < rank (after v t)) (sym h.0)
          (subst (λ u. rank p < rank (after p u)) (sym h.1) (subst (λ v. rank p < rank v) (sym shape.relinks.there) shape.rises))
      | inr h ↦ subst (λ v. rank x < rank v) (sym h) (elim (Spans-replace r) [
        | inl d ↦ ordered.rising x low high t d i
        | inr d ↦ absurd (shape.node (subst IsInternal d.0 i))
      ])
    ];
  }

  module _ {holds : ℕ → Type 0} where
    -- every other key is met from x as before
    pub Meets-replaced : (j : ℕ) → j ≢ key l → {x : ℕ} → FindsLeaf key child holds j x → FindsLeaf key after holds j x
    Meets-replaced j ne (at_leaf h e that) = at_leaf h e that
    Meets-replaced j ne (below {x = x} {y = y} i e f) = elim (shape.relinks.others x (nat_le (key x) j)) [
      | inl h ↦ (let is : y ≡ l = e ∙ (ap (λ v. child v (nat_le (key x) j)) h.0 ∙ (ap (child p) h.1 ∙ shape.was)) in
          absurd (ne (sym (leaf_key key child j l shape.leaf (subst (FindsLeaf key child holds j) is f)))))
      | inr h ↦ below i (e ∙ sym h) (Meets-replaced j ne f)
    ]

    -- and no other was met
    pub Meets-unreplaced : (j : ℕ) → j ≢ key l → {x : ℕ} → FindsLeaf key after holds j x → FindsLeaf key child holds j x
    Meets-unreplaced j ne (at_leaf h e that) = at_leaf h e that
    Meets-unreplaced j ne (below {x = x} {y = y} i e f) = elim (shape.relinks.others x (nat_le (key x) j)) [
      | inl h ↦ (let is : y ≡ q = e ∙ (ap (λ v. after v (nat_le (key x) j)) h.0 ∙ (ap (after p) h.1 ∙ shape.relinks.there)) in
          absurd (ne (sym (leaf_key key after j q shape.node (subst (FindsLeaf key after holds j) is f)) ∙ shape.same)))
      | inr h ↦ below i (e ∙ h) (Meets-unreplaced j ne f)
    ]

  module _ (ordered : IsOrdered key child top rank) (low high : ℕ) (reached : Spans key child top p low high) (internal : IsInternal p) where
    -- the old leaf's range
    pub l_spans : Spans key child top l (low_of s low (key p)) (high_of s high (key p))
    l_spans = goes s reached internal (sym shape.was) refl refl

    -- the new leaf has it
    pub q_spans : Spans key after top q (low_of s low (key p)) (high_of s high (key p))
    q_spans = elim (Spans-still reached) [
      | inl h ↦ absurd (shape.leaf (subst IsInternal h internal))
      | inr r ↦ goes s r internal (sym shape.relinks.there) refl refl
    ]

    -- the key is met before and after, where it holds of the old leaf and of the new one
    pub Meets-old : {holds : ℕ → Type 0} → holds l → FindsLeaf key child holds (key l) 0
    Meets-old that = let v = ordered.within l _ _ l_spans in Meets-up key child top ordered l_spans v.0 v.1 (at_leaf shape.leaf refl that)

    pub Meets-new : {holds : ℕ → Type 0} → holds q → FindsLeaf key after holds (key l) 0
    Meets-new that =
        let v = ordered.within l _ _ l_spans in
        Meets-up key after top (IsOrdered-replace ordered) q_spans v.0 v.1 (at_leaf shape.node shape.same that)

    module _ (Born : ℕ → Type 0) (closed : (x : ℕ) (t : Bool) → IsInternal x → Born x → Born (child x t))
        (not_new : (x : ℕ) → Born x → x ≢ q) (old_l : Born l) where
      -- the old leaf is reached no longer
      l_gone : (a b : ℕ) → ¬ Spans key after top l a b
      l_gone a b r =
          let after_ordered = IsOrdered-replace ordered in
          let v = ordered.within l _ _ l_spans in
          let u = after_ordered.within l a b r in
          not_new l old_l (two_leaves key after top after_ordered (key l) r u.0 u.1 shape.leaf q_spans v.0 v.1 shape.node)

      -- a node that came into the tree before and is cut out stays so
      pub stays_out : (x : ℕ) → Born x → ((a b : ℕ) → ¬ Spans key child top x a b) → (a b : ℕ) → ¬ Spans key after top x a b
      stays_out x o h a b r = elim (Spans-replace r) [
        | inl d ↦ h a b d
        | inr d ↦ not_new x o d.0
      ]

      -- a node that came into the tree before stays on course
      pub OnCourse-replace : (j : ℕ) {x : ℕ} → Born x → OnCourse key child top j x → OnCourse key after top j x
      OnCourse-replace j c (here {x = x} r a b) = elim (Spans-still r) [
        | inl e ↦ dead (λ i. shape.leaf (subst IsInternal e i))
            (subst (λ v. (a b : ℕ) → ¬ Spans key after top v a b) (sym e) l_gone)
        | inr o ↦ here o a b
      ]
      OnCourse-replace j c (off {x = x} {y = y} i h e n) = elim (shape.relinks.others x (nat_le (key x) j)) [
        | inl d ↦ absurd (h low high (subst (λ v. Spans key child top v low high) (sym d.0) reached))
        | inr d ↦ (let born = subst Born (sym e) (closed x (nat_le (key x) j) i c) in
            off i (stays_out x c h) (e ∙ sym d) (OnCourse-replace j born n))
      ]
      OnCourse-replace j c (dead {x = x} i h) = dead i (stays_out x c h)
