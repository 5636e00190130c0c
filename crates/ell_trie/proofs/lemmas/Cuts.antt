use Rattle.std.proofs.Common.{◌≡◌, ℕ, ◌<◌, Bool, true, false, nat_le, sym, ap, ◌∙◌, subst, inl, inr, arith}
use Rattle.std.proofs.lemmas.Bool.{cases_Bool, false≢true}
use Rattle.ell_word.specs.Node.{IsInternal}
use Rattle.ell_trie.specs.Ranges.{Spans, IsOrdered}
use Rattle.ell_trie.proofs.lemmas.order.Removes.{Removes, Spans-remove, IsOrdered-remove, Meets-removed, Meets-kept, gone}
use Rattle.ell_trie.proofs.lemmas.order.Courses.{OnCourse-remove}
use Rattle.ell_trie.specs.Halves.{InHalfOf, InsideOf}
use Rattle.ell_trie.specs.Tries.{Opening, IsTrie}
use Rattle.ell_trie.specs.Courses.{OnTrieCourse, ordinary, passes, missed, strange}
use Rattle.ell_trie.specs.Cuts.{CutsOut, CutsKeep}
use Rattle.ell_trie.proofs.lemmas.Middles.{half_there, inside_half, inside_inside}
use Rattle.ell_trie.proofs.lemmas.Paths.{spans_born}

-- a cut, as the library's lemmas have it
pub removes : {key : ℕ → ℕ} {child after : ℕ → Bool → ℕ} {top g : ℕ} {s : Bool} {p : ℕ} {t : Bool} {l w : ℕ} → CutsOut child after g s p t l w
    → Removes key child after top g s p t l w
removes cut = record {
  relinks = cut.relinks;
  parent = cut.was;
  node = cut.node;
  inner = cut.inner;
  leaf = cut.outer;
  leaf_there = cut.leaf_there;
  other = cut.sibling_there;
}

-- a cut leaves a trie
module _ {Born : ℕ → Type 0} {o : Opening} {key : ℕ → ℕ} {child after : ℕ → Bool → ℕ} {g : ℕ} {s : Bool} {p : ℕ} {t : Bool} {l w : ℕ}
    (trie : IsTrie Born o key child) (cut : CutsOut child after g s p t l w) (born_g : Born g) where
  born_p : Born p
  born_p = subst Born cut.was (trie.closed g s cut.node born_g)

  born_w : Born w
  born_w = subst Born cut.sibling_there (trie.closed p t cut.inner born_p)

  -- the children afterwards
  cut_cases : (z : ℕ) (u : Bool) (P : ℕ → Type 0) → (z ≡ g → u ≡ s → P w) → P (child z u) → P (after z u)
  cut_cases z u P at_g there = elim (cut.relinks.others z u) [
    | inl h ↦ subst P (sym cut.relinks.there ∙ (ap (after g) (sym h.1) ∙ ap (λ v. after v u) (sym h.0))) (at_g h.0 h.1)
    | inr h ↦ subst P (sym h) there
  ]

  plain_p : o.holds g ≡ false → o.holds p ≡ false
  plain_p plain = ap o.holds (sym cut.was) ∙ trie.plain g s cut.node born_g plain

  plain_w : o.holds p ≡ false → o.holds w ≡ false
  plain_w plain = ap o.holds (sym cut.sibling_there) ∙ trie.plain p t cut.inner born_p plain

  p_inside : o.holds g ≡ false → InsideOf (key p) (key g) s
  p_inside plain = subst (λ v. InsideOf (key v) (key g) s) cut.was (trie.inner g s cut.node born_g plain (subst IsInternal (sym cut.was) cut.inner))

  leaf_there : o.holds g ≡ false → ¬ IsInternal w → InHalfOf (key g) s (key w)
  leaf_there plain outer = inside_half (p_inside plain) (half_there (subst (λ v. InHalfOf (key p) t (key v)) cut.sibling_there
      (trie.leaf p t cut.inner born_p (plain_p plain) (λ i. outer (subst IsInternal cut.sibling_there i)))))

  inner_there : o.holds g ≡ false → IsInternal w → InsideOf (key w) (key g) s
  inner_there plain i = inside_inside (subst (λ v. InsideOf (key v) (key p) t) cut.sibling_there
      (trie.inner p t cut.inner born_p (plain_p plain) (subst IsInternal (sym cut.sibling_there) i))) (p_inside plain)

  w_deeper : o.holds w ≡ true → IsInternal w → o.depth g < o.depth w
  w_deeper held inner =
      let p_held : o.holds p ≡ true = elim (cases_Bool (o.holds p)) [ inl is ↦ is | inr plain ↦ absurd (false≢true (sym (plain_w plain) ∙ held)) ] in
      let one = subst (λ v. o.depth g < o.depth v) cut.was (trie.deeper g s cut.node born_g (ap o.holds cut.was ∙ p_held) (subst IsInternal (sym cut.was) cut.inner)) in
      let two = subst (λ v. o.depth p < o.depth v) cut.sibling_there (trie.deeper p t cut.inner born_p (ap o.holds cut.sibling_there ∙ held) (subst IsInternal (sym cut.sibling_there) inner)) in
      omega arith

  pub trie_cut : IsTrie Born o key after
  trie_cut = record {
    start = trie.start;
    closed = λ z u i b. cut_cases z u Born (λ e f. born_w) (trie.closed z u i b);
    plain = λ z u i b plain. cut_cases z u (λ v. o.holds v ≡ false) (λ e f. plain_w (plain_p (ap o.holds (sym e) ∙ plain))) (trie.plain z u i b plain);
    deeper = λ z u i b. cut_cases z u (λ v. o.holds v ≡ true → IsInternal v → o.depth z < o.depth v)
        (λ e f held inner. subst (λ v. o.depth v < o.depth w) (sym e) (w_deeper held inner)) (trie.deeper z u i b);
    few = trie.few;
    small = trie.small;
    leaf = λ z u i b plain. cut_cases z u (λ v. ¬ IsInternal v → InHalfOf (key z) u (key v))
        (λ e f c. subst (λ v. InHalfOf (key v) u (key w)) (sym e) (subst (λ v. InHalfOf (key g) v (key w)) (sym f) (leaf_there (ap o.holds (sym e) ∙ plain) c)))
        (trie.leaf z u i b plain);
    inner = λ z u i b plain. cut_cases z u (λ v. IsInternal v → InsideOf (key v) (key z) u)
        (λ e f c. subst (λ v. InsideOf (key w) (key v) u) (sym e) (subst (λ v. InsideOf (key w) (key g) v) (sym f) (inner_there (ap o.holds (sym e) ∙ plain) c)))
        (trie.inner z u i b plain);
  }

-- nodes stay on course
module _ (o : Opening) (key : ℕ → ℕ) (child after : ℕ → Bool → ℕ) (top g : ℕ) (s : Bool) (p : ℕ) (t : Bool) (l w : ℕ)
    (shape : Removes key child after top g s p t l w) {rank : ℕ → ℕ} (ordered : IsOrdered key child top rank)
    (low high : ℕ) (reached : Spans key child top g low high) where
  still_cut : (x : ℕ) → ((a b : ℕ) → ¬ Spans key child top x a b) → (a b : ℕ) → ¬ Spans key after top x a b
  still_cut x h a b r = let u = Spans-remove key child after top g s p t l w shape ordered r in h u.a u.b u.reached

  pub course_cut : (k : ℕ) {x : ℕ} → OnTrieCourse o key child top k x → OnTrieCourse o key after top k x
  course_cut k (ordinary c) = ordinary (OnCourse-remove key child top ordered after g s p t l w shape low high reached k c)
  course_cut k (passes {x = x} i h e n) = elim (shape.relinks.others x (nat_le (key x) k)) [
    | inl d ↦ absurd (h low high (subst (λ v. Spans key child top v low high) (sym d.0) reached))
    | inr d ↦ passes i (still_cut x h) (e ∙ sym d) (course_cut k n)
  ]
  course_cut k (missed i plain lacks) = missed i plain lacks
  course_cut k (strange i plain ne) = strange i plain ne

pub cuts_keep : CutsKeep
cuts_keep born holds o key child after top g s p t l w trie ordered cut in_tree =
    let shape : Removes key child after top g s p t l w = removes cut in
    record {
      trie = trie_cut trie cut (spans_born trie in_tree.spans);
      ordered = (ordered.0, IsOrdered-remove key child after top g s p t l w shape ordered.1);
      others = λ j ne x. (
        Meets-removed key child after top g s p t l w shape ordered.1 j ne,
        Meets-kept key child after top g s p t l w shape ordered.1 in_tree.low in_tree.high in_tree.spans j ne,
      );
      absent = gone key child after top g s p t l w shape ordered.1 in_tree.low in_tree.high in_tree.spans;
      course = λ k x c. course_cut o key child after top g s p t l w shape ordered.1 in_tree.low in_tree.high in_tree.spans k c;
    }
