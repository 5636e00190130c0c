use Rattle.std.specs.Prelude.{◌≡◌, ◌≢◌, ℕ, ◌<◌, ◌≤◌, Bool, true, false}
use Rattle.ell_word.specs.Node.{IsInternal}
use Rattle.ell_trie.specs.Ranges.{next_node, Spans, IsCutOut, FindsLeaf, IsOrdered, OnCourse}
use Rattle.ell_block.specs.Blocks.{InBlockOf}
use Rattle.ell_trie.specs.Tries.{In, Opening, IsTrie}

-- a tree is in order by some rank
abbrev pub IsInOrder : (ℕ → ℕ) → (ℕ → Bool → ℕ) → ℕ → Type 0
IsInOrder key child top = (rank : ℕ → ℕ) × IsOrdered key child top rank

-- A node of a trie is on course for a key: as in any tree; or it was cut out, and the next node on the walk for the key is
-- on course; or, if it is not of the opening tree, its block lacks the key, or it is a leaf of another key. In the last two
-- cases the walk ends without the key.
pub data OnTrieCourse (opening : Opening) (key : ℕ → ℕ) (child : ℕ → Bool → ℕ) (top k : ℕ) : ℕ → Type 0 where
  ordinary : {x : ℕ} → OnCourse key child top k x → OnTrieCourse opening key child top k x
  passes : {x y : ℕ} → IsInternal x → IsCutOut key child top x → y ≡ next_node key child k x →
      OnTrieCourse opening key child top k y → OnTrieCourse opening key child top k x
  missed : {x : ℕ} → IsInternal x → opening.holds x ≡ false → ¬ InBlockOf (key x) k → OnTrieCourse opening key child top k x
  strange : {x : ℕ} → ¬ IsInternal x → opening.holds x ≡ false → key x ≢ k → OnTrieCourse opening key child top k x

-- if an internal node that is on course for a key is reached, and its block has the key, then the key is in its range
abbrev pub CoursesTell : Type 0
CoursesTell = (opening : Opening) (key : ℕ → ℕ) (child : ℕ → Bool → ℕ) (top k x low high : ℕ) →
    IsInOrder key child top → OnTrieCourse opening key child top k x → IsInternal x →
    (opening.holds x ≡ false → InBlockOf (key x) k) → Spans key child top x low high → (low ≤ k) × (k < high)

-- the next node on the walk for a key from a node on course is on course
abbrev pub CoursesGoOn : Type 0
CoursesGoOn = (born : ℕ → Bool) (opening : Opening) (key : ℕ → ℕ) (child : ℕ → Bool → ℕ) (top k x : ℕ) →
    IsTrie (In born) opening key child → IsInOrder key child top → born x ≡ true → IsInternal x →
    OnTrieCourse opening key child top k x → OnTrieCourse opening key child top k (next_node key child k x)

-- if a node is reached with a key in its range, and its block lacks the key, then the tree lacks it
abbrev pub MissesAreTrue : Type 0
MissesAreTrue = (born holds : ℕ → Bool) (opening : Opening) (key : ℕ → ℕ) (child : ℕ → Bool → ℕ) (top k x low high : ℕ) →
    IsTrie (In born) opening key child → IsInOrder key child top → IsInternal x → opening.holds x ≡ false →
    ¬ InBlockOf (key x) k → Spans key child top x low high → low ≤ k → k < high → ¬ FindsLeaf key child (In holds) k 0
