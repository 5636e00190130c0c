use Rattle.std.proofs.Common.{◌≡◌, ◌≢◌, ℕ, ◌<◌, ◌^◌, ◌↔◌, Bool, true, false, nat_le, refl, sym, ap, ◌∙◌, subst, inl, inr, arith}
use Rattle.std.proofs.lemmas.Bool.{false≢true}
use Rattle.ell_word.specs.Node.{IsInternal}
use Rattle.ell_trie.specs.Ranges.{Spans, IsCutOut, FindsLeaf, at_leaf, below, IsOrdered}
use Rattle.ell_trie.proofs.lemmas.order.Replaces.{Replaces, IsOrdered-replace, Meets-replaced, Meets-unreplaced, stays_out, OnCourse-replace}
use Rattle.ell_trie.specs.Halves.{InHalfOf, InsideOf}
use Rattle.ell_trie.specs.Ranks.{rank_of}
use Rattle.ell_trie.specs.Tries.{Opening, IsTrie}
use Rattle.ell_trie.specs.Courses.{OnTrieCourse, ordinary, passes, missed, strange}
use Rattle.ell_trie.specs.Swaps.{LeafSwap, BornLeaf, SwapsKeep}
use Rattle.ell_trie.proofs.lemmas.Paths.{rank_leaf, rank_most, in_order, spans_born}

module _ {Born : ℕ → Type 0} {o : Opening} {key : ℕ → ℕ} {child after : ℕ → Bool → ℕ} {top p : ℕ} {s : Bool} {l c : ℕ}
    (trie : IsTrie Born o key child) (swap : LeafSwap Born o key child after top p s l c) where
  born_p : Born p
  born_p = spans_born trie swap.there.spans

  born_l : Born l
  born_l = subst Born swap.was (trie.closed p s swap.from born_p)

  -- the change as the library's lemmas have it, by the rank of tries
  pub shape : Replaces (rank_of o key) key child after p s l c
  shape = record {
    relinks = swap.relinks;
    was = swap.was;
    leaf = swap.leaf;
    node = swap.outer;
    rises = (let leaf = rank_leaf o key c swap.outer in let most = rank_most o key p (trie.few p) swap.from in omega arith);
    same = swap.same;
  }

  not_new : (x : ℕ) → Born x → x ≢ c
  not_new x b e = swap.fresh (subst Born e b)

  -- the children afterwards
  swap_cases : (z : ℕ) (u : Bool) (P : ℕ → Type 0) → IsInternal z → BornLeaf Born c z → (z ≡ p → u ≡ s → P c) → (Born z → P (child z u)) → P (after z u)
  swap_cases z u P i (inr e) at_p at_born = absurd (swap.outer (subst IsInternal e i))
  swap_cases z u P i (inl b) at_p at_born = elim (swap.relinks.others z u) [
    | inl h ↦ subst P (sym (ap (λ v. after v u) h.0 ∙ (ap (after p) h.1 ∙ swap.relinks.there))) (at_p h.0 h.1)
    | inr h ↦ subst P (sym h) (at_born b)
  ]

  new_half : o.holds p ≡ false → InHalfOf (key p) s (key c)
  new_half plain = subst (InHalfOf (key p) s) (ap key swap.was ∙ sym swap.same)
      (trie.leaf p s swap.from born_p plain (λ i. swap.leaf (subst IsInternal swap.was i)))

  small_swap : (z : ℕ) → IsInternal z → BornLeaf Born c z → o.holds z ≡ false → key z < 2 ^ 64
  small_swap z i (inl b) plain = trie.small z i b plain
  small_swap z i (inr e) plain = absurd (swap.outer (subst IsInternal e i))

  pub trie_swap : IsTrie (BornLeaf Born c) o key after
  trie_swap = record {
    start = inl trie.start;
    closed = λ z u i b. swap_cases z u (BornLeaf Born c) i b (λ e f. inr refl) (λ d. inl (trie.closed z u i d));
    plain = λ z u i b plain. swap_cases z u (λ v. o.holds v ≡ false) i b (λ e f. swap.plain) (λ d. trie.plain z u i d plain);
    deeper = λ z u i b. swap_cases z u (λ v. o.holds v ≡ true → IsInternal v → o.depth z < o.depth v) i b
        (λ e f held inner. absurd (false≢true (sym swap.plain ∙ held))) (λ d. trie.deeper z u i d);
    few = trie.few;
    small = small_swap;
    leaf = λ z u i b plain. swap_cases z u (λ v. ¬ IsInternal v → InHalfOf (key z) u (key v)) i b
        (λ e f outer. subst (λ v. InHalfOf (key v) u (key c)) (sym e) (subst (λ v. InHalfOf (key p) v (key c)) (sym f) (new_half (ap o.holds (sym e) ∙ plain))))
        (λ d. trie.leaf z u i d plain);
    inner = λ z u i b plain. swap_cases z u (λ v. IsInternal v → InsideOf (key v) (key z) u) i b
        (λ e f j. absurd (swap.outer j)) (λ d. trie.inner z u i d plain);
  }

  module _ {rank : ℕ → ℕ} (ordered : IsOrdered key child top rank) where
    -- the order by the rank of tries
    pub trie_order : IsOrdered key child top (rank_of o key)
    trie_order = in_order trie ordered.within ordered.proper

    pub order_swap : IsOrdered key after top (rank_of o key)
    order_swap = IsOrdered-replace key child after top p s l c shape trie_order

    pub out_swap : (x : ℕ) → Born x → IsCutOut key child top x → IsCutOut key after top x
    out_swap = stays_out key child after top p s l c shape trie_order swap.there.low swap.there.high swap.there.spans swap.from Born trie.closed not_new born_l

    -- a node on course stays so
    pub course_swap : (k : ℕ) {x : ℕ} → Born x → OnTrieCourse o key child top k x → OnTrieCourse o key after top k x
    course_swap k b (ordinary h) = ordinary (OnCourse-replace key child after top p s l c shape trie_order swap.there.low swap.there.high swap.there.spans swap.from
        Born trie.closed not_new born_l k b h)
    course_swap k b (passes {x = x} i h e n) = elim (swap.relinks.others x (nat_le (key x) k)) [
      | inl d ↦ absurd (h swap.there.low swap.there.high (subst (λ v. Spans key child top v swap.there.low swap.there.high) (sym d.0) swap.there.spans))
      | inr d ↦ passes i (out_swap x b h) (e ∙ sym d) (course_swap k (subst Born (sym e) (trie.closed x (nat_le (key x) k) i b)) n)
    ]
    course_swap k b (missed i plain lacks) = missed i plain lacks
    course_swap k b (strange i plain ne) = strange i plain ne

  -- where what is asked holds of both leaves or of none, the same is found
  module _ {Holds : ℕ → Type 0} (copy : Holds c ↔ Holds l) where
    leaf_copied : (k : ℕ) → FindsLeaf key child Holds k l → FindsLeaf key after Holds k c
    leaf_copied k (at_leaf h e that) = at_leaf swap.outer (swap.same ∙ e) (copy.1 that)
    leaf_copied k (below i e f) = absurd (swap.leaf i)

    leaf_was : (k : ℕ) → FindsLeaf key after Holds k c → FindsLeaf key child Holds k l
    leaf_was k (at_leaf h e that) = at_leaf swap.leaf (sym swap.same ∙ e) (copy.0 that)
    leaf_was k (below i e f) = absurd (swap.outer i)

    pub found_copied : (k : ℕ) {x : ℕ} → FindsLeaf key child Holds k x → FindsLeaf key after Holds k x
    found_copied k (at_leaf h e that) = at_leaf h e that
    found_copied k (below {x = x} i e f) = elim (swap.relinks.others x (nat_le (key x) k)) [
      | inl h ↦
          let u = nat_le (key x) k in
          let is = e ∙ (ap (λ v. child v u) h.0 ∙ (ap (child p) h.1 ∙ swap.was)) in
          let to = sym swap.relinks.there ∙ (ap (after p) (sym h.1) ∙ ap (λ v. after v u) (sym h.0)) in
          below i to (leaf_copied k (subst (FindsLeaf key child Holds k) is f))
      | inr h ↦ below i (e ∙ sym h) (found_copied k f)
    ]

    pub found_before : (k : ℕ) {x : ℕ} → FindsLeaf key after Holds k x → FindsLeaf key child Holds k x
    found_before k (at_leaf h e that) = at_leaf h e that
    found_before k (below {x = x} i e f) = elim (swap.relinks.others x (nat_le (key x) k)) [
      | inl h ↦
          let u = nat_le (key x) k in
          let is = e ∙ (ap (λ v. after v u) h.0 ∙ (ap (after p) h.1 ∙ swap.relinks.there)) in
          let to = sym swap.was ∙ (ap (child p) (sym h.1) ∙ ap (λ v. child v u) (sym h.0)) in
          below i to (leaf_was k (subst (FindsLeaf key after Holds k) is f))
      | inr h ↦ below i (e ∙ h) (found_before k f)
    ]

pub swaps_keep : SwapsKeep
swaps_keep born holds o key child after top p s l c trie ordered swap = record {
  trie = trie_swap trie swap;
  ordered = (rank_of o key, order_swap trie swap ordered.1);
  others = λ k ne x. (Meets-replaced key child after top p s l c (shape trie swap) k ne, Meets-unreplaced key child after top p s l c (shape trie swap) k ne);
  copies = λ copy k x. (found_copied trie swap copy k, found_before trie swap copy k);
  course = λ k x b h. course_swap trie swap ordered.1 k b h;
  out = out_swap trie swap ordered.1;
}
