use Rattle.std.proofs.Common.{◌≡◌, ◌≢◌, ℕ, ◌%◌, ◌<◌, ◌≤◌, Bool, nat_le, refl, sym, ap, ◌∙◌, subst, inl, inr, arith}
use Rattle.ell_word.specs.Node.{IsInternal}
use Rattle.ell_trie.specs.Ranges.{next_node, low_of, high_of, Spans, root, goes, IsOrdered, OnCourse, here, off, dead}
use Rattle.ell_trie.proofs.lemmas.order.Bounds.{child_within, side_of, side_within, leaf_is_met}
use Rattle.ell_trie.proofs.lemmas.order.OneRange.{unique, no_between, two_leaves}
use Rattle.ell_trie.proofs.lemmas.order.Inserts.{Inserts, new_node, new_leaf, Spans-insert, Spans-stays, IsOrdered-insert}
use Rattle.ell_trie.proofs.lemmas.order.Removes.{Removes, stays, was_p, was_l, Spans-left, Spans-remove, IsOrdered-remove, gone, same_or_not}

module _ (key : ℕ → ℕ) (child : ℕ → Bool → ℕ) (top : ℕ) {rank : ℕ → ℕ}
    (ordered : IsOrdered key child top rank) where
  -- node 0 is on course for each key
  pub OnCourse-start : (k : ℕ) → k < top → OnCourse key child top k 0
  OnCourse-start k h = here (root refl refl refl) (omega arith) h

  -- so is the next node on the walk for a key from one that is
  pub OnCourse-down : {k x : ℕ} → OnCourse key child top k x → IsInternal x
      → OnCourse key child top k (next_node key child k x)
  OnCourse-down {k = k} (here {x = x} {low = low} {high = high} r a b) i =
      let w = side_within key child top ordered (key x) k low high (nat_le (key x) k) refl a b in
      here (goes (nat_le (key x) k) r i refl refl refl) w.0 w.1
  OnCourse-down {k = k} (off i h e t) j = subst (OnCourse key child top k) e t
  OnCourse-down (dead h n) j = absurd (h j)

  -- a key lies in the range of a reached node that is on course for it
  pub OnCourse-range : {k x low high : ℕ} → OnCourse key child top k x → Spans key child top x low high
      → (low ≤ k) × (k < high)
  OnCourse-range (here r a b) q = let u = unique key child top ordered r q in (omega arith, omega arith)
  OnCourse-range (off i h e t) q = absurd (h _ _ q)
  OnCourse-range (dead h n) q = absurd (n _ _ q)

  module _ (after : ℕ → Bool → ℕ) (p : ℕ) (s : Bool) (l q k : ℕ) (shape : Inserts rank key child after top p s l q k)
      (low high : ℕ) (reached : Spans key child top p low high) (internal : IsInternal p)
      (Born : ℕ → Type 0) (closed : (x : ℕ) (t : Bool) → IsInternal x → Born x → Born (child x t))
      (not_new : (x : ℕ) → Born x → x ≢ q) (not_new_leaf : (x : ℕ) (t : Bool) → Born x → x ≢ child q t)
      (old_l : Born l) where
    ordered_after : IsOrdered key after top rank
    ordered_after = IsOrdered-insert key child after top p s l q k shape ordered

    l_spans : Spans key child top l (low_of s low (key p)) (high_of s high (key p))
    l_spans = goes s reached internal (sym shape.was) refl refl

    new_kept : (t : Bool) → after q t ≡ child q t
    new_kept t = elim (shape.relinks.others q t) [ inl h ↦ absurd (shape.apart (sym h.0)) | inr h ↦ h ]

    l_gone : (a b : ℕ) → ¬ Spans key after top l a b
    l_gone a b r = elim (Spans-stays key child after top p s l q k shape reached) [
      | inl e ↦ absurd (shape.leaf (cc))
      | inr o ↦
          let t = nat_le (key q) (key l) in
          let v = ordered.within l _ _ l_spans in
          let w = ordered_after.within l a b r in
          let n : Spans key after top q (low_of s low (key p)) (high_of s high (key p)) =
          goes s o internal (sym shape.relinks.there) refl refl in
          let c = side_within key after top ordered_after (key q) (key l) _ _ t refl v.0 v.1 in
          let new_in = goes t n shape.node (sym (new_kept t)) refl refl in
          let same = two_leaves key after top ordered_after (key l) r w.0 w.1 shape.leaf new_in c.0 c.1 (shape.leaves t) in
          not_new_leaf l t old_l same
    ]

    -- a node that came into the tree before and is cut out stays so
    pub stays_out : (x : ℕ) → Born x → ((a b : ℕ) → ¬ Spans key child top x a b) → (a b : ℕ) → ¬ Spans key after top x a b
    stays_out x o h a b r = elim (Spans-insert key child after top p s l q k shape r) [
      | inl d ↦ h a b d
      | inr (new_node e d) ↦ not_new x o e
      | inr (new_leaf t e d f g) ↦ not_new_leaf x t o e
    ]

    -- a node that came into the tree before stays on course
    pub OnCourse-insert : (j : ℕ) {x : ℕ} → Born x → OnCourse key child top j x → OnCourse key after top j x
    OnCourse-insert j c (here {x = x} r a b) = elim (Spans-stays key child after top p s l q k shape r) [
      | inl e ↦ dead (λ i. shape.leaf (ap (λ v. v % 4) (sym e) ∙ i))
          (subst (λ v. (a b : ℕ) → ¬ Spans key after top v a b) (sym e) l_gone)
      | inr o ↦ here o a b
    ]
    OnCourse-insert j c (off {x = x} {y = y} i h e n) = elim (shape.relinks.others x (nat_le (key x) j)) [
      | inl d ↦ absurd (h low high (subst (λ v. Spans key child top v low high) (sym d.0) reached))
      | inr d ↦
          let born = subst Born (sym e) (closed x (nat_le (key x) j) i c) in
          off i (stays_out x c h) (e ∙ sym d) (OnCourse-insert j born n)
    ]
    OnCourse-insert j c (dead {x = x} i h) = dead i (stays_out x c h)

  module _ (after : ℕ → Bool → ℕ) (g : ℕ) (s : Bool) (p : ℕ) (t : Bool) (l w : ℕ)
      (shape : Removes key child after top g s p t l w)
      (low high : ℕ) (reached : Spans key child top g low high) where
    ordered_cut : IsOrdered key after top rank
    ordered_cut = IsOrdered-remove key child after top g s p t l w shape ordered

    l_cut : (a b : ℕ) → ¬ Spans key after top l a b
    l_cut a b r =
        gone key child after top g s p t l w shape ordered low high reached
        (leaf_is_met key after top ordered_cut {holds = λ leaf. Unit {0}} r shape.leaf tt)

    p_spans : Spans key child top p (low_of s low (key g)) (high_of s high (key g))
    p_spans = goes s reached shape.node (sym shape.parent) refl refl

    g_rises : rank g < rank p
    g_rises = let up = ordered.rising g low high s reached shape.node in omega (arith, ap rank shape.parent)

    p_rises : rank p < rank w
    p_rises = let up = ordered.rising p _ _ t p_spans shape.inner in omega (arith, ap rank shape.other)

    p_cut : (a b : ℕ) → ¬ Spans key after top p a b
    p_cut a b r =
        let v = ordered_cut.within p a b r in
        let b0 = ordered.within p _ _ p_spans in
        let in_g = child_within key child top ordered g low high s reached in
        let side : nat_le (key g) (key p) ≡ s =
        side_of key child top ordered (key g) (key p) low high s (omega arith) (omega arith) in
        let next = sym (ap (after g) side ∙ shape.relinks.there) in
        elim (Spans-left key child after top g s p t l w shape ordered reached) [
          | stays u ↦
              let up = no_between key after top ordered_cut (key p) r v.0 v.1 u.reached (omega arith) (omega arith)
              shape.node next p_rises in
              absurd (omega (arith, g_rises))
          | was_p e u ↦ absurd (omega (arith, g_rises, ap rank e))
          | was_l e ↦ absurd (shape.leaf (cc))
        ]

    still_cut : (x : ℕ) → ((a b : ℕ) → ¬ Spans key child top x a b) → (a b : ℕ) → ¬ Spans key after top x a b
    still_cut x h a b r = let u = Spans-remove key child after top g s p t l w shape ordered r in h u.a u.b u.reached

    after_p : (j : ℕ) → (a b : ℕ) → Spans key after top w a b → a ≤ j → j < b → OnCourse key after top j p
    after_p j a b r c d = elim (shape.relinks.others p (nat_le (key p) j)) [
      | inl o ↦ absurd (omega (arith, g_rises, ap rank o.0))
      | inr o ↦ off shape.inner p_cut refl (elim (same_or_not (nat_le (key p) j) t) [
        | inl e ↦ subst (OnCourse key after top j) (cc) (here r c d)
        | inr e ↦ subst (OnCourse key after top j) (cc) (dead shape.leaf l_cut)
      ])
    ]

    -- a node stays on course
    pub OnCourse-remove : (j : ℕ) {x : ℕ} → OnCourse key child top j x → OnCourse key after top j x
    OnCourse-remove j (here r a b) = elim (Spans-left key child after top g s p t l w shape ordered r) [
      | stays u ↦ here u.reached (omega arith) (omega arith)
      | was_p e u ↦ subst (OnCourse key after top j) (sym e) (after_p j u.a u.b u.reached (omega arith) (omega arith))
      | was_l e ↦ subst (OnCourse key after top j) (sym e) (dead shape.leaf l_cut)
    ]
    OnCourse-remove j (off {x = x} i h e n) = elim (shape.relinks.others x (nat_le (key x) j)) [
      | inl d ↦ absurd (h low high (subst (λ v. Spans key child top v low high) (sym d.0) reached))
      | inr d ↦ off i (still_cut x h) (e ∙ sym d) (OnCourse-remove j n)
    ]
    OnCourse-remove j (dead {x = x} i h) = dead i (still_cut x h)
