use Rattle.std.proofs.Common.{◌≡◌, ℕ, ◌^◌, ◌<◌, Bool, true, false, not, inl, inr, refl, sym, ap, ◌∙◌, subst}
use Rattle.std.proofs.lemmas.Bool.{false≢true}
use Rattle.ell_word.specs.Node.{IsInternal}
use Rattle.ell_trie.proofs.lemmas.order.Removes.{same_or_not}
use Rattle.ell_trie.specs.Halves.{InHalfOf, InsideOf}
use Rattle.ell_trie.specs.Tries.{Opening, IsTrie}
use Rattle.ell_trie.specs.Links.{Links, BornWith}
use Rattle.ell_trie.proofs.lemmas.links.Sides.{born_x, to_new}

module _ {Born : ℕ → Type 0} {o : Opening} {key : ℕ → ℕ} {child after : ℕ → Bool → ℕ} {top p : ℕ} {s : Bool} {x q : ℕ} {t : Bool} {n k : ℕ}
    (trie : IsTrie Born o key child) (link : Links Born o key child after top p s x q t n k) where
  -- the children afterwards, by their parents
  child_cases : (z : ℕ) (u : Bool) (P : ℕ → Type 0) → IsInternal z → BornWith Born q n z → (z ≡ p → u ≡ s → P q)
      → (Born z → P (child z u)) → (z ≡ q → u ≡ t → P n) → (z ≡ q → u ≡ not t → P x) → P (after z u)
  child_cases z u P i b at_p at_born at_new at_old = elim (link.shape.relinks.others z u) [
    | inl h ↦ subst P (sym (to_new trie link h.0 h.1)) (at_p h.0 h.1)
    | inr h ↦ subst P (sym h) (go b)
  ]
    where
      go : BornWith Born q n z → P (child z u)
      go (inl born) = at_born born
      go (inr (inl is)) = elim (same_or_not u t) [
        | inl w ↦ subst P (sym (ap (λ v. child v u) is ∙ (ap (child q) w ∙ link.shape.beside))) (at_new is w)
        | inr w ↦ subst P (sym (ap (λ v. child v u) is ∙ (ap (child q) w ∙ link.shape.below))) (at_old is w)
      ]
      go (inr (inr is)) = absurd (link.shape.outer (subst IsInternal is i))

  small_after : (z : ℕ) → IsInternal z → BornWith Born q n z → o.holds z ≡ false → key z < 2 ^ 64
  small_after z i (inl born) plain = trie.small z i born plain
  small_after z i (inr (inl is)) plain = subst (λ v. key v < 2 ^ 64) (sym is) link.shape.small
  small_after z i (inr (inr is)) plain = absurd (link.shape.outer (subst IsInternal is i))

  pub trie_after : IsTrie (BornWith Born q n) o key after
  trie_after = record {
    start = inl trie.start;
    closed = λ z u i b. child_cases z u (BornWith Born q n) i b (λ e f. inr (inl refl)) (λ c. inl (trie.closed z u i c)) (λ e f. inr (inr refl)) (λ e f. inl (born_x trie link));
    plain = λ z u i b plain. child_cases z u (λ v. o.holds v ≡ false) i b
        (λ e f. link.shape.new_plain) (λ c. trie.plain z u i c plain) (λ e f. link.shape.leaf_plain) (λ e f. link.shape.old_plain);
    deeper = λ z u i b. child_cases z u (λ v. o.holds v ≡ true → IsInternal v → o.depth z < o.depth v) i b
        (λ e f l inner. absurd (false≢true (sym link.shape.new_plain ∙ l))) (λ c. trie.deeper z u i c)
        (λ e f l inner. absurd (false≢true (sym link.shape.leaf_plain ∙ l))) (λ e f l inner. absurd (false≢true (sym link.shape.old_plain ∙ l)));
    few = trie.few;
    small = small_after;
    leaf = λ z u i b plain. child_cases z u (λ v. ¬ IsInternal v → InHalfOf (key z) u (key v)) i b
        (λ e f c. absurd (c link.shape.node)) (λ c. trie.leaf z u i c plain)
        (λ e f c. subst (λ v. InHalfOf (key v) u (key n)) (sym e) (subst (λ w. InHalfOf (key q) w (key n)) (sym f)
        (subst (InHalfOf (key q) t) (sym link.shape.has) link.key_there)))
        (λ e f c. subst (λ v. InHalfOf (key v) u (key x)) (sym e) (subst (λ w. InHalfOf (key q) w (key x)) (sym f) (link.old_leaf_there c)));
    inner = λ z u i b plain. child_cases z u (λ v. IsInternal v → InsideOf (key v) (key z) u) i b
        (λ e f c. subst (λ v. InsideOf (key q) (key v) u) (sym e) (subst (λ w. InsideOf (key q) (key p) w) (sym f) (link.fits (ap o.holds (sym e) ∙ plain))))
        (λ c. trie.inner z u i c plain)
        (λ e f c. absurd (link.shape.outer c))
        (λ e f c. subst (λ v. InsideOf (key x) (key v) u) (sym e) (subst (λ w. InsideOf (key x) (key q) w) (sym f) (link.old_there c)));
  }
