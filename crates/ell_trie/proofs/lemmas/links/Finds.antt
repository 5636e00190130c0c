use Rattle.std.proofs.Common.{◌≡◌, ◌≢◌, ℕ, ◌%◌, Bool, not, nat_le, inl, inr, refl, sym, ap, ◌∙◌, subst}
use Rattle.ell_word.specs.Node.{IsInternal}
use Rattle.ell_trie.specs.Ranges.{next_node, FindsLeaf, at_leaf, below, IsOrdered}
use Rattle.ell_trie.proofs.lemmas.order.Removes.{same_or_not}
use Rattle.ell_trie.proofs.lemmas.order.Bounds.{leaf_key, Meets-up, Meets-down}
use Rattle.ell_trie.specs.Tries.{Opening, IsTrie}
use Rattle.ell_trie.specs.Links.{Links}
use Rattle.ell_trie.proofs.lemmas.Paths.{here}
use Rattle.ell_trie.proofs.lemmas.links.Sides.{kept, to_new, from_old, met_side, key_side, side_apart}
use Rattle.ell_trie.proofs.lemmas.links.Ranges.{x_spans, q_spans}

module _ {Born : ℕ → Type 0} {o : Opening} {key : ℕ → ℕ} {child after : ℕ → Bool → ℕ} {top p : ℕ} {s : Bool} {x q : ℕ} {t : Bool} {n k : ℕ}
    (trie : IsTrie Born o key child) (link : Links Born o key child after top p s x q t n k) {Holds : ℕ → Type 0} where
  -- each other key is met as before
  pub met_after : (j : ℕ) → j ≢ k → {z : ℕ} → FindsLeaf key child Holds j z → FindsLeaf key after Holds j z
  met_after j ne (at_leaf h e that) = at_leaf h e that
  met_after j ne (below {x = z} {y = y} i e f) = elim (link.shape.relinks.others z (nat_le (key z) j)) [
    | inl h ↦
        let is : y ≡ x = e ∙ from_old trie link h.0 h.1 in
        let side = met_side trie link j (here is) f in
        let down : y ≡ after q (nat_le (key q) j) = is ∙ (sym link.shape.below ∙ (sym (kept trie link (not t)) ∙ ap (after q) (sym side))) in
        below i (sym (to_new trie link h.0 h.1)) (below link.shape.node down (met_after j ne f))
    | inr h ↦ below i (e ∙ sym h) (met_after j ne f)
  ]

  -- and no other was met
  pub met_before : (j : ℕ) → j ≢ k → {z : ℕ} → FindsLeaf key after Holds j z → FindsLeaf key child Holds j z
  met_before j ne (at_leaf h e that) = at_leaf h e that
  met_before j ne (below {x = z} {y = y} i e (at_leaf h g that)) = elim (link.shape.relinks.others z (nat_le (key z) j)) [
    | inl w ↦ absurd (h (ap (λ v. v % 4) (e ∙ to_new trie link w.0 w.1) ∙ link.shape.node))
    | inr w ↦ below i (e ∙ w) (at_leaf h g that)
  ]
  met_before j ne (below {x = z} {y = y} i e (below {y = y2} i2 e2 f)) = elim (link.shape.relinks.others z (nat_le (key z) j)) [
    | inl w ↦
        let is : y ≡ q = e ∙ to_new trie link w.0 w.1 in
        let two : y2 ≡ child q (nat_le (key q) j) = e2 ∙ (ap (λ v. after v (nat_le (key v) j)) is ∙ kept trie link (nat_le (key q) j)) in
        elim (same_or_not (nat_le (key q) j) t) [
          | inl agree ↦
              let at_n : y2 ≡ n = two ∙ (ap (child q) agree ∙ link.shape.beside) in
              let leaf : ¬ IsInternal y2 = (λ v. link.shape.outer (subst IsInternal at_n v)) in
              absurd (ne (sym (leaf_key key after j y2 leaf f) ∙ (ap key at_n ∙ link.shape.has)))
          | inr other ↦
              let at_x : y2 ≡ x = two ∙ (ap (child q) other ∙ link.shape.below) in
              below i (at_x ∙ sym (from_old trie link w.0 w.1)) (met_before j ne f)
        ]
    | inr w ↦ below i (e ∙ w) (met_before j ne (below i2 e2 f))
  ]

  -- the added key was not met
  pub absent_before : {rank : ℕ → ℕ} → IsOrdered key child top rank → ¬ FindsLeaf key child Holds k 0
  absent_before ordered f =
      let side = met_side trie link k (here refl) (Meets-down key child top ordered (x_spans trie link) link.first link.last f) in
      side_apart t (sym side ∙ key_side trie link)

  -- and is met then
  pub present_after : {rank : ℕ → ℕ} → IsOrdered key after top rank → Holds n → FindsLeaf key after Holds k 0
  present_after ordered that =
      let down : n ≡ next_node key after k q = sym link.shape.beside ∙ (sym (kept trie link t) ∙ ap (after q) (sym (key_side trie link))) in
      Meets-up key after top ordered (q_spans trie link) link.first link.last (below link.shape.node down (at_leaf link.shape.outer link.shape.has that))
