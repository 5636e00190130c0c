use Rattle.std.proofs.Common.{◌≡◌, ℕ, ◌%◌, Bool, not, nat_le, inl, inr, sym, ◌∙◌, subst}
use Rattle.std.proofs.lemmas.Bool.{cases_eq}
use Rattle.ell_word.specs.Node.{IsInternal}
use Rattle.ell_trie.specs.Ranges.{next_node, Spans, IsCutOut, OnCourse, here, off, dead}
use Rattle.ell_trie.proofs.lemmas.order.Removes.{same_or_not}
use Rattle.ell_trie.specs.Tries.{Opening, IsTrie}
use Rattle.ell_trie.specs.Courses.{OnTrieCourse, ordinary, passes, missed, strange}
use Rattle.ell_trie.specs.Links.{Links}
use Rattle.ell_trie.proofs.lemmas.Middles.{half_side, inside_half}
use Rattle.ell_trie.proofs.lemmas.Paths.{Under, under_plain}
use Rattle.ell_trie.proofs.lemmas.links.Sides.{side_apart, born_x, other_inside, other_side}
use Rattle.ell_trie.proofs.lemmas.links.Ranges.{out, in_, spans_stay, out_after, low_there, high_there}

module _ {Born : ℕ → Type 0} {o : Opening} {key : ℕ → ℕ} {child after : ℕ → Bool → ℕ} {top p : ℕ} {s : Bool} {x q : ℕ} {t : Bool} {n k : ℕ}
    (trie : IsTrie Born o key child) (link : Links Born o key child after top p s x q t n k) where
  -- a key that goes to the new leaf's side is missed below the old node
  missed_under : (j : ℕ) {z : ℕ} → Under child x z → nat_le (key q) j ≡ t → OnTrieCourse o key after top j z
  missed_under j {z} v lost = elim (cases_eq (z % 4) 0) [
    | inl i ↦ missed i (under_plain trie (born_x trie link) link.shape.old_plain v).1
        (λ m. side_apart t (sym (half_side (inside_half (other_inside trie link v i) m)) ∙ lost))
    | inr i ↦ strange i (under_plain trie (born_x trie link) link.shape.old_plain v).1 (λ e. side_apart t (sym (subst (λ j. nat_le (key q) j ≡ not t) e (other_side trie link v)) ∙ lost))
  ]

  -- a node that the parent's change does not concern, as the parent is reached
  pub not_p : (z j : ℕ) → IsCutOut key child top z → after z (nat_le (key z) j) ≡ child z (nat_le (key z) j)
  not_p z j h = elim (link.shape.relinks.others z (nat_le (key z) j)) [
    | inl w ↦ absurd (h link.low link.high (subst (λ v. Spans key child top v link.low link.high) (sym w.0) link.reached))
    | inr w ↦ w
  ]

  born_next : (j : ℕ) {z y : ℕ} → Born z → IsInternal z → y ≡ next_node key child j z → Born y
  born_next j {z} b i e = subst Born (sym e) (trie.closed z (nat_le (key z) j) i b)

  -- a node on course stays so
  tree_course : (j : ℕ) {z : ℕ} → Born z → OnCourse key child top j z → OnTrieCourse o key after top j z
  tree_course j b (here r first last) = elim (spans_stay trie link r) [
    | out r2 ↦ ordinary (here r2 first last)
    | in_ v r2 l h ↦ elim (same_or_not (nat_le (key q) j) t) [
      | inl lost ↦ missed_under j v lost
      | inr stays ↦ ordinary (here r2 (low_there stays l first) (high_there stays h last))
    ]
  ]
  tree_course j b (off {x = z} i h e rest) = passes i (out_after trie link z b h) (e ∙ sym (not_p z j h)) (tree_course j (born_next j b i e) rest)
  tree_course j b (dead {x = z} i h) = ordinary (dead i (out_after trie link z b h))

  pub course_after : (j : ℕ) {z : ℕ} → Born z → OnTrieCourse o key child top j z → OnTrieCourse o key after top j z
  course_after j b (ordinary c) = tree_course j b c
  course_after j b (passes {x = z} i h e rest) = passes i (out_after trie link z b h) (e ∙ sym (not_p z j h)) (course_after j (born_next j b i e) rest)
  course_after j b (missed i plain lacks) = missed i plain lacks
  course_after j b (strange i plain ne) = strange i plain ne
