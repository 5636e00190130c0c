use Rattle.std.specs.Prelude.{◌≡◌, ◌≢◌, ℕ, ◌<◌, ◌≤◌, ◌↔◌, Bool, true, false, List, [], ◌∷◌, Contains}
use Rattle.std.specs.List.Sorted.{IsStrictlyIncreasing}
use Rattle.std.specs.Map.{keys_of}
use Rattle.ell_ops.specs.Meaning.{greatest_key}
use Rattle.ell_word.specs.Node.{IsInternal, right_leaf, infinity1, infinity2}
use Rattle.ell_layout.specs.Words.{Words, IsLeaf}
use Rattle.ell_layout.specs.Cards.{child_for}
use Rattle.ell_core.specs.tree.Rank.{rank}

-- a node is on the walk for a key from x: it is x, or it is on the walk from the child of x on the key's side
pub data OnWalk (w : Words) (key : ℕ) : ℕ → ℕ → Type 0 where
  here : {x y : ℕ} → y ≡ x → OnWalk w key x y
  next : {x y : ℕ} → IsInternal x → OnWalk w key (child_for w key x) y → OnWalk w key x y

-- the walk for a key from x ends at a leaf that has the key and this value
pub record Finds (w : Words) (key value x : ℕ) : Type 0 where
  pub leaf : ℕ
  pub on : OnWalk w key x leaf
  pub outer : IsLeaf leaf
  pub has : w.key leaf ≡ key
  pub says : w.value leaf ≡ value

-- a path, a list of sides of which true is the right one, leads from x to y over internal nodes
abbrev pub Leads : Words → ℕ → List Bool → ℕ → Type 0
Leads w x [] y = y ≡ x
Leads w x (right ∷ path) y = IsInternal x × Leads w (w.child x right) path y

-- y is x or below it
pub record Below (w : Words) (x y : ℕ) : Type 0 where
  pub path : List Bool
  pub leads : Leads w x path y

-- a node is reached from node 0
abbrev pub Reached : Words → ℕ → Type 0
Reached w x = Below w 0 x

-- a key of the tree with its value: a reached leaf has both, and the key is a real one
pub record IsTreePair (w : Words) (key value : ℕ) : Type 0 where
  pub leaf : ℕ
  pub reached : Reached w leaf
  pub outer : IsLeaf leaf
  pub has : w.key leaf ≡ key
  pub says : w.value leaf ≡ value
  pub real : key ≤ greatest_key

-- a key of the tree: it is there with some value
abbrev pub IsTreeKey : Words → ℕ → Type 0
IsTreeKey w key = (value : ℕ) × IsTreePair w key value

-- a node has a parent and a grandparent that are reached
pub record HasGrandparent (w : Words) (x : ℕ) : Type 0 where
  pub grandparent : ℕ
  pub reached : Reached w grandparent
  pub first : Bool
  pub second : Bool
  pub leads : Leads w grandparent (first ∷ second ∷ []) x

-- below the root's left child one leaf has infinity1, and each other leaf a real key, a parent and a grandparent
pub record LeftIsLawful (w : Words) : Type 0 where
  pub last : ℕ
  pub there : Below w (w.child 0 false) last
  pub outer : IsLeaf last
  pub last_key : w.key last ≡ infinity1
  pub real : (x : ℕ) → Below w (w.child 0 false) x → IsLeaf x → x ≢ last → w.key x ≤ greatest_key
  pub deep : (x : ℕ) → Below w (w.child 0 false) x → IsLeaf x → x ≢ last → HasGrandparent w x

-- a lawful tree: ranks rise, one path leads to each node, keys are in order, root and right leaf have infinity2
pub record IsLawful (w : Words) : Type 0 where
  pub rises : (x : ℕ) (right : Bool) → Reached w x → IsInternal x → rank w x < rank w (w.child x right)
  pub one_path : (x : ℕ) (p q : List Bool) → Leads w 0 p x → Leads w 0 q x → p ≡ q
  pub left_less : (x y : ℕ) → Reached w x → IsInternal x → Below w (w.child x false) y → w.key y < w.key x
  pub right_more : (x y : ℕ) → Reached w x → IsInternal x → Below w (w.child x true) y → w.key x ≤ w.key y
  pub root_key : w.key 0 ≡ infinity2
  pub root_right : w.child 0 true ≡ right_leaf 0
  pub right_key : w.key (right_leaf 0) ≡ infinity2
  pub left : LeftIsLawful w

-- a list has the keys of the tree with their values, each key once, ascending
pub record ListsTreePairs (w : Words) (pairs : List (ℕ × ℕ)) : Type 0 where
  pub ascending : IsStrictlyIncreasing (keys_of pairs)
  pub each : (key value : ℕ) → Contains pairs (key, value) ↔ IsTreePair w key value

-- a list has the keys of the tree, each once, ascending
pub record ListsKeys (w : Words) (keys : List ℕ) : Type 0 where
  pub ascending : IsStrictlyIncreasing keys
  pub each : (key : ℕ) → Contains keys key ↔ IsTreeKey w key
