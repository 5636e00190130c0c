use Rattle.std.specs.Prelude.{◌≡◌, ℕ, ◌+◌, ◌^◌, ◌<◌, ◌≤◌, Bool, true, false, List, [], ◌∷◌, length}
use Rattle.ell_word.specs.Node.{IsInternal}
use Rattle.ell_block.specs.Blocks.{Block, middle_of}
use Rattle.ell_trie.specs.Halves.{InHalfOf, InsideOf}

-- a node is in a set of nodes
abbrev pub In : (ℕ → Bool) → ℕ → Type 0
In nodes x = nodes x ≡ true

-- The opening tree: which nodes are of it, the depth of each internal one, and a depth that none of these is to exceed. Their
-- keys need not be branches.
pub record Opening : Type 0 where
  pub holds : ℕ → Bool
  pub depth : ℕ → ℕ
  pub most : ℕ

-- A tree is a trie, whose nodes are those that were born: the key of each internal node, but for those of the opening tree,
-- is a branch below 2 ^ 64, and what is below the node on a side is in that half of the branch's block.
pub record IsTrie (Born : ℕ → Type 0) (opening : Opening) (key : ℕ → ℕ) (child : ℕ → Bool → ℕ) : Type 0 where
  -- node 0 was born, and so were the children of each internal node that was born
  pub start : Born 0
  pub closed : (x : ℕ) (side : Bool) → IsInternal x → Born x → Born (child x side)
  -- no node of the opening tree is below one that is not of it, and each internal one has a greater depth than its parent, up
  -- to the most
  pub plain : (x : ℕ) (side : Bool) → IsInternal x → Born x → opening.holds x ≡ false → opening.holds (child x side) ≡ false
  pub deeper : (x : ℕ) (side : Bool) → IsInternal x → Born x → opening.holds (child x side) ≡ true →
      IsInternal (child x side) → opening.depth x < opening.depth (child x side)
  pub few : (x : ℕ) → IsInternal x → opening.holds x ≡ true → opening.depth x ≤ opening.most
  -- the key of an internal node is below 2 ^ 64
  pub small : (x : ℕ) → IsInternal x → Born x → opening.holds x ≡ false → key x < 2 ^ 64
  -- a leaf has its key in the half of its parent's block, and an internal node has its block there
  pub leaf : (x : ℕ) (side : Bool) → IsInternal x → Born x → opening.holds x ≡ false → ¬ IsInternal (child x side) →
      InHalfOf (key x) side (key (child x side))
  pub inner : (x : ℕ) (side : Bool) → IsInternal x → Born x → opening.holds x ≡ false → IsInternal (child x side) →
      InsideOf (key (child x side)) (key x) side

-- a path, a list of sides of which true is the right one, leads from x to y over internal nodes
abbrev pub InnerPath : (ℕ → Bool → ℕ) → ℕ → List Bool → ℕ → Type 0
InnerPath child x [] y = y ≡ x
InnerPath child x (side ∷ path) y = IsInternal x × InnerPath child (child x side) path y

-- a path from an internal node of a trie to another one, also where it was cut out of the tree, is no longer than the bit of
-- the first one's block less that of the second one's
abbrev pub PathsAreShort : Type 0
PathsAreShort = (born : ℕ → Bool) (opening : Opening) (key : ℕ → ℕ) (child : ℕ → Bool → ℕ) →
    IsTrie (In born) opening key child → (path : List Bool) (x y : ℕ) (upper lower : Block) →
    born x ≡ true → opening.holds x ≡ false → IsInternal x → IsInternal y → InnerPath child x path y →
    key x ≡ middle_of upper → key y ≡ middle_of lower → length path + lower.bit ≤ upper.bit

-- from node 0 to an internal node there are at most 64 steps more than the opening tree is deep: if node 0 alone is of it, at
-- most 65 internal nodes are on a path
abbrev pub TriesAreShallow : Type 0
TriesAreShallow = (born : ℕ → Bool) (opening : Opening) (key : ℕ → ℕ) (child : ℕ → Bool → ℕ) →
    IsTrie (In born) opening key child → (path : List Bool) (y : ℕ) → IsInternal y → InnerPath child 0 path y →
    length path ≤ opening.most + 64
