use Rattle.std.specs.Prelude.{◌≡◌, ◌≢◌, ℕ, ◌⊎◌, ◌↔◌, Bool, false}
use Rattle.ell_word.specs.Node.{IsInternal}
use Rattle.ell_trie.specs.Ranges.{IsCutOut, IsSpanned, FindsLeaf, Relinked}
use Rattle.ell_trie.specs.Tries.{In, Opening, IsTrie}
use Rattle.ell_trie.specs.Courses.{IsInOrder, OnTrieCourse}

-- A swap: the child of a reached parent on a side was a leaf, and is now another leaf of the same key, which was not born
-- before and is not of the opening tree.
pub record LeafSwap (Born : ℕ → Type 0) (opening : Opening) (key : ℕ → ℕ) (child after : ℕ → Bool → ℕ)
    (top parent : ℕ) (side : Bool) (old new : ℕ) : Type 0 where
  pub relinks : Relinked child after parent side new
  pub was : child parent side ≡ old
  pub from : IsInternal parent
  pub there : IsSpanned key child top parent
  pub leaf : ¬ IsInternal old
  pub outer : ¬ IsInternal new
  pub same : key new ≡ key old
  pub plain : opening.holds new ≡ false
  pub fresh : ¬ Born new

-- what was born before a swap, and its leaf
abbrev pub BornLeaf : (ℕ → Type 0) → ℕ → ℕ → Type 0
BornLeaf Born new x = Born x ⊎ (x ≡ new)

-- What a swap keeps: the trie, its order and each other key; its own one too, if what is asked of leaves holds of the new
-- leaf exactly if it holds of the old one. Nodes on course stay so, and nodes that were cut out stay out.
pub record SwapKeeps (Born Holds : ℕ → Type 0) (opening : Opening) (key : ℕ → ℕ) (child after : ℕ → Bool → ℕ)
    (top old new : ℕ) : Type 0 where
  pub trie : IsTrie (BornLeaf Born new) opening key after
  pub ordered : IsInOrder key after top
  pub others : (k : ℕ) → k ≢ key old → (x : ℕ) → FindsLeaf key child Holds k x ↔ FindsLeaf key after Holds k x
  pub copies : (Holds new ↔ Holds old) → (k x : ℕ) → FindsLeaf key child Holds k x ↔ FindsLeaf key after Holds k x
  pub course : (k x : ℕ) → Born x → OnTrieCourse opening key child top k x → OnTrieCourse opening key after top k x
  pub out : (x : ℕ) → Born x → IsCutOut key child top x → IsCutOut key after top x

-- swaps keep that
abbrev pub SwapsKeep : Type 0
SwapsKeep = (born holds : ℕ → Bool) (opening : Opening) (key : ℕ → ℕ) (child after : ℕ → Bool → ℕ)
    (top parent : ℕ) (side : Bool) (old new : ℕ) →
    IsTrie (In born) opening key child → IsInOrder key child top →
    LeafSwap (In born) opening key child after top parent side old new →
    SwapKeeps (In born) (In holds) opening key child after top old new
