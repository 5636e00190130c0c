use Rattle.std.specs.Prelude.{◌≡◌, ◌≢◌, ℕ, ◌^◌, nat_le, ◌<◌, ◌≤◌, ◌⊎◌, ◌↔◌, Bool, false, not}
use Rattle.ell_word.specs.Node.{IsInternal}
use Rattle.ell_trie.specs.Ranges.{low_of, high_of, Spans, IsCutOut, IsSpanned, FindsLeaf, Relinked}
use Rattle.ell_block.specs.Blocks.{InBlockOf}
use Rattle.ell_trie.specs.Halves.{InHalfOf, InsideOf, IsBranchBeside}
use Rattle.ell_trie.specs.Tries.{In, Opening, IsTrie}
use Rattle.ell_trie.specs.Courses.{IsInOrder, OnTrieCourse}

-- The shape of a link: the child of the parent on a side was the old node, an inner one or a leaf, and is now the new node,
-- over a new leaf of the added key on one side and the old node on the other.
pub record LinkShape (Born : ℕ → Type 0) (opening : Opening) (key : ℕ → ℕ) (child after : ℕ → Bool → ℕ)
    (parent : ℕ) (side : Bool) (old new : ℕ) (half : Bool) (leaf added : ℕ) : Type 0 where
  pub relinks : Relinked child after parent side new
  pub was : child parent side ≡ old
  pub from : IsInternal parent
  pub node : IsInternal new
  pub outer : ¬ IsInternal leaf
  -- the children of the new node
  pub beside : child new half ≡ leaf
  pub below : child new (not half) ≡ old
  -- the keys of the new nodes
  pub has : key leaf ≡ added
  pub small : key new < 2 ^ 64
  -- none of the three is of the opening tree, and the new ones were not born before
  pub old_plain : opening.holds old ≡ false
  pub new_plain : opening.holds new ≡ false
  pub leaf_plain : opening.holds leaf ≡ false
  pub fresh : ¬ Born new
  pub fresh_leaf : ¬ Born leaf

-- A link: the parent is reached, with the added key in the range of its child. The new node's block has the added key in one
-- half and, in the other, the old node's block or the old leaf's key. It is in a half of the parent's block.
pub record Links (Born : ℕ → Type 0) (opening : Opening) (key : ℕ → ℕ) (child after : ℕ → Bool → ℕ)
    (top parent : ℕ) (side : Bool) (old new : ℕ) (half : Bool) (leaf added : ℕ) : Type 0 where
  pub shape : LinkShape Born opening key child after parent side old new half leaf added
  pub low : ℕ
  pub high : ℕ
  pub reached : Spans key child top parent low high
  pub first : low_of side low (key parent) ≤ added
  pub last : added < high_of side high (key parent)
  pub key_there : InHalfOf (key new) half added
  pub old_there : IsInternal old → InsideOf (key old) (key new) (not half)
  pub old_leaf_there : ¬ IsInternal old → InHalfOf (key new) (not half) (key old)
  pub fits : opening.holds parent ≡ false → InsideOf (key new) (key parent) side

-- An insert above a node, with what is known when it is made: the parent is reached, on course for the added key and, unless
-- it is of the opening tree, with the key in its block. The old node, its child on the key's side, is a leaf, or has a block
-- that lacks the key, and the key of the new node is the branch of the old node's key and the added one.
pub record InsertAbove (Born : ℕ → Type 0) (opening : Opening) (key : ℕ → ℕ) (child after : ℕ → Bool → ℕ)
    (top parent : ℕ) (side : Bool) (old new : ℕ) (half : Bool) (leaf added : ℕ) : Type 0 where
  pub shape : LinkShape Born opening key child after parent side old new half leaf added
  pub there : IsSpanned key child top parent
  pub course : OnTrieCourse opening key child top added parent
  pub inside : opening.holds parent ≡ false → InBlockOf (key parent) added
  pub toward : nat_le (key parent) added ≡ side
  pub lacks : IsInternal old → ¬ InBlockOf (key old) added
  pub parts : IsBranchBeside half (key old) added (key new)

-- what was born before such a link, and its new nodes
abbrev pub BornWith : (ℕ → Type 0) → ℕ → ℕ → ℕ → Type 0
BornWith Born new leaf x = Born x ⊎ ((x ≡ new) ⊎ (x ≡ leaf))

-- What an insert keeps: the trie, with what was born by then, its order and each other key. It adds its own key. Nodes on
-- course stay so, for each key, and nodes that were cut out stay out.
pub record InsertKeeps (Born BornAfter Holds : ℕ → Type 0) (opening : Opening) (key : ℕ → ℕ) (child after : ℕ → Bool → ℕ)
    (top leaf added : ℕ) : Type 0 where
  pub trie : IsTrie BornAfter opening key after
  pub ordered : IsInOrder key after top
  pub others : (k : ℕ) → k ≢ added → (x : ℕ) → FindsLeaf key child Holds k x ↔ FindsLeaf key after Holds k x
  pub absent : ¬ FindsLeaf key child Holds added 0
  pub present : Holds leaf → FindsLeaf key after Holds added 0
  pub course : (k x : ℕ) → Born x → OnTrieCourse opening key child top k x → OnTrieCourse opening key after top k x
  pub out : (x : ℕ) → Born x → IsCutOut key child top x → IsCutOut key after top x

-- a link keeps all that, and each node that is reached stays so
pub record LinkKeeps (Born Holds : ℕ → Type 0) (opening : Opening) (key : ℕ → ℕ) (child after : ℕ → Bool → ℕ)
    (top new leaf added : ℕ) : Type 0 where
  pub keeps : InsertKeeps Born (BornWith Born new leaf) Holds opening key child after top leaf added
  pub reached : (x : ℕ) → IsSpanned key child top x → IsSpanned key after top x

-- links keep that
abbrev pub LinksKeep : Type 0
LinksKeep = (born holds : ℕ → Bool) (opening : Opening) (key : ℕ → ℕ) (child after : ℕ → Bool → ℕ)
    (top parent : ℕ) (side : Bool) (old new : ℕ) (half : Bool) (leaf added : ℕ) →
    IsTrie (In born) opening key child → IsInOrder key child top →
    Links (In born) opening key child after top parent side old new half leaf added →
    LinkKeeps (In born) (In holds) opening key child after top new leaf added

-- and inserts keep it
abbrev pub InsertsKeep : Type 0
InsertsKeep = (born holds : ℕ → Bool) (opening : Opening) (key : ℕ → ℕ) (child after : ℕ → Bool → ℕ)
    (top parent : ℕ) (side : Bool) (old new : ℕ) (half : Bool) (leaf added : ℕ) →
    IsTrie (In born) opening key child → IsInOrder key child top →
    InsertAbove (In born) opening key child after top parent side old new half leaf added →
    LinkKeeps (In born) (In holds) opening key child after top new leaf added
