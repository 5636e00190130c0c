use Rattle.std.specs.Prelude.{◌≡◌, ◌≢◌, ℕ, ◌↔◌, Bool, not}
use Rattle.ell_word.specs.Node.{IsInternal}
use Rattle.ell_trie.specs.Ranges.{IsSpanned, FindsLeaf, Relinked}
use Rattle.ell_trie.specs.Tries.{In, Opening, IsTrie}
use Rattle.ell_trie.specs.Courses.{IsInOrder, OnTrieCourse}

-- A cut: the child of the grandparent on a side was the parent, an internal node, and is now the parent's child on one side,
-- the sibling. The parent's other child, a leaf, goes out of the tree with it.
pub record CutsOut (child after : ℕ → Bool → ℕ) (grandparent : ℕ) (side : Bool) (parent : ℕ) (half : Bool) (leaf sibling : ℕ)
    : Type 0 where
  pub relinks : Relinked child after grandparent side sibling
  pub was : child grandparent side ≡ parent
  pub node : IsInternal grandparent
  pub inner : IsInternal parent
  pub outer : ¬ IsInternal leaf
  pub leaf_there : child parent (not half) ≡ leaf
  pub sibling_there : child parent half ≡ sibling

-- What it keeps: the trie, its order, each other key, and nodes on course. It takes the leaf's key away.
pub record CutKeeps (Born Holds : ℕ → Type 0) (opening : Opening) (key : ℕ → ℕ) (child after : ℕ → Bool → ℕ) (top leaf : ℕ)
    : Type 0 where
  pub trie : IsTrie Born opening key after
  pub ordered : IsInOrder key after top
  pub others : (k : ℕ) → k ≢ key leaf → (x : ℕ) → FindsLeaf key child Holds k x ↔ FindsLeaf key after Holds k x
  pub absent : ¬ FindsLeaf key after Holds (key leaf) 0
  pub course : (k x : ℕ) → OnTrieCourse opening key child top k x → OnTrieCourse opening key after top k x

-- cuts keep that, where the grandparent is reached
abbrev pub CutsKeep : Type 0
CutsKeep = (born holds : ℕ → Bool) (opening : Opening) (key : ℕ → ℕ) (child after : ℕ → Bool → ℕ)
    (top grandparent : ℕ) (side : Bool) (parent : ℕ) (half : Bool) (leaf sibling : ℕ) →
    IsTrie (In born) opening key child → IsInOrder key child top →
    CutsOut child after grandparent side parent half leaf sibling → IsSpanned key child top grandparent →
    CutKeeps (In born) (In holds) opening key child after top leaf
