use Rattle.std.proofs.Common.{◌≡◌, ℕ, ◌%◌, Bool, false, nat_le, inl, inr, sym, ap, ◌∙◌, subst}
use Rattle.std.proofs.lemmas.Bool.{cases_eq}
use Rattle.ell_word.specs.Node.{IsInternal}
use Rattle.ell_trie.specs.Ranges.{next_node, IsCutOut, OnCourse, FindsLeaf, at_leaf, below, IsOrdered}
use Rattle.ell_trie.proofs.lemmas.order.Bounds.{Meets-down}
use Rattle.ell_trie.proofs.lemmas.order.Courses.{OnCourse-down, OnCourse-range}
use Rattle.ell_block.specs.Blocks.{InBlockOf}
use Rattle.ell_trie.specs.Tries.{Opening, IsTrie}
use Rattle.ell_trie.specs.Courses.{OnTrieCourse, ordinary, passes, missed, strange, CoursesTell, CoursesGoOn, MissesAreTrue}
use Rattle.ell_trie.proofs.lemmas.Middles.{half_there, inside_half}
use Rattle.ell_trie.proofs.lemmas.Paths.{key_below, spans_born}

module _ {Born : ℕ → Type 0} {o : Opening} {key : ℕ → ℕ} {child : ℕ → Bool → ℕ} (trie : IsTrie Born o key child) where
  -- what is in the block of a node's child is in the node's
  pub block_below : (x : ℕ) (u : Bool) (k : ℕ) → IsInternal x → Born x → o.holds x ≡ false → IsInternal (child x u) → InBlockOf (key (child x u)) k → InBlockOf (key x) k
  block_below x u k i born plain j h = half_there (inside_half (trie.inner x u i born plain j) h)

  -- what is found below a node is in its block
  pub found_in_block : {Holds : ℕ → Type 0} (k x : ℕ) → Born x → o.holds x ≡ false → IsInternal x → FindsLeaf key child Holds k x → InBlockOf (key x) k
  found_in_block k x born plain i (at_leaf h e that) = absurd (h i)
  found_in_block k x born plain i (below _ e (at_leaf h f that)) =
      subst (InBlockOf (key x)) (sym (ap key e) ∙ f) (key_below trie x (nat_le (key x) k) i born plain)
  found_in_block k x born plain i (below {y = y} _ e (below h f rest)) =
      let u = nat_le (key x) k in
      let deep = found_in_block k y (subst Born (sym e) (trie.closed x u i born)) (ap o.holds e ∙ trie.plain x u i born plain) h (below h f rest) in
      block_below x u k i born plain (ap (λ v. v % 4) (sym e) ∙ h) (subst (λ v. InBlockOf (key v) k) e deep)

  -- the next node is on course
  pub course_down : {top : ℕ} {rank : ℕ → ℕ} → IsOrdered key child top rank → (k x : ℕ) → Born x → IsInternal x → OnTrieCourse o key child top k x
      → OnTrieCourse o key child top k (next_node key child k x)
  course_down {top = top} ordered k x born i (ordinary c) = ordinary (OnCourse-down key child top ordered c i)
  course_down {top = top} ordered k x born i (passes j h e n) = subst (OnTrieCourse o key child top k) e n
  course_down ordered k x born i (strange j plain ne) = absurd (j i)
  course_down ordered k x born i (missed j plain lacks) =
      let u = nat_le (key x) k in
      elim (cases_eq (child x u % 4) 0) [
        | inl inner ↦ missed inner (trie.plain x u i born plain) (λ m. lacks (block_below x u k i born plain inner m))
        | inr outer ↦ strange outer (trie.plain x u i born plain) (λ e. lacks (subst (InBlockOf (key x)) e (key_below trie x u i born plain)))
      ]

-- nodes stay on course, for each key, if those do that are so as in any tree, and if what was cut out stays out and has the
-- children that it had
pub course_lifts : {Born : ℕ → Type 0} (o : Opening) (key : ℕ → ℕ) (child after : ℕ → Bool → ℕ) (top : ℕ)
    → ((x : ℕ) (t : Bool) → IsInternal x → Born x → Born (child x t))
    → ((k x : ℕ) → Born x → OnCourse key child top k x → OnTrieCourse o key after top k x)
    → ((x : ℕ) → Born x → IsCutOut key child top x → IsCutOut key after top x)
    → ((x : ℕ) (t : Bool) → IsCutOut key child top x → after x t ≡ child x t)
    → (k : ℕ) {x : ℕ} → Born x → OnTrieCourse o key child top k x → OnTrieCourse o key after top k x
course_lifts o key child after top closed plain out same k born (ordinary c) = plain k _ born c
course_lifts {Born = Born} o key child after top closed plain out same k born (passes {x = x} i h e n) =
    passes i (out x born h) (e ∙ sym (same x (nat_le (key x) k) h))
    (course_lifts o key child after top closed plain out same k (subst Born (sym e) (closed x (nat_le (key x) k) i born)) n)
course_lifts o key child after top closed plain out same k born (missed i plain' lacks) = missed i plain' lacks
course_lifts o key child after top closed plain out same k born (strange i plain' ne) = strange i plain' ne

pub courses_tell : CoursesTell
courses_tell o key child top k x low high ordered (ordinary c) i has r = OnCourse-range key child top ordered.1 c r
courses_tell o key child top k x low high ordered (passes j h e n) i has r = absurd (h low high r)
courses_tell o key child top k x low high ordered (missed j plain lacks) i has r = absurd (lacks (has plain))
courses_tell o key child top k x low high ordered (strange j plain ne) i has r = absurd (j i)

pub courses_go_on : CoursesGoOn
courses_go_on born o key child top k x trie ordered b i course = course_down trie ordered.1 k x b i course

pub misses_are_true : MissesAreTrue
misses_are_true born holds o key child top k x low high trie ordered i plain lacks r first last f =
    lacks (found_in_block trie k x (spans_born trie r) plain i (Meets-down key child top ordered.1 r first last f))
