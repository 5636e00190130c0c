use Rattle.std.specs.Prelude.{◌≡◌, ℕ, ◌<◌, ◌↔◌, Bool, true}
use Rattle.ell_word.specs.Node.{IsInternal}
use Rattle.ell_trie.specs.Ranges.{next_node, IsSpanned, FindsLeaf}
use Rattle.ell_trie.specs.Tries.{In, Opening, IsTrie}
use Rattle.ell_trie.specs.Courses.{IsInOrder}
use Rattle.ell_trie.specs.Links.{InsertAbove}
use Rattle.ell_trie.specs.Swaps.{LeafSwap}
use Rattle.ell_trie.specs.Cuts.{CutsOut}

-- a state of a tree: which nodes were born, and the children of each
pub record TreeState : Type 0 where
  pub born : ℕ → Bool
  pub child : ℕ → Bool → ℕ

-- what never changes: the opening tree, the keys of nodes, the values of leaves, and the number below which keys are
pub record Fixed : Type 0 where
  pub opening : Opening
  pub key : ℕ → ℕ
  pub value : ℕ → ℕ
  pub top : ℕ

-- a state is a trie, in order
pub record IsGood (fixed : Fixed) (state : TreeState) : Type 0 where
  pub trie : IsTrie (In state.born) fixed.opening fixed.key state.child
  pub ordered : IsInOrder fixed.key state.child fixed.top

-- the children change by an insert, by a swap, by a cut, or not at all
pub data TreeStep (fixed : Fixed) (old new : TreeState) : Type 0 where
  insert_above : (parent : ℕ) (side : Bool) (lower node : ℕ) (half : Bool) (fresh added : ℕ) →
      InsertAbove (In old.born) fixed.opening fixed.key old.child new.child fixed.top parent side lower node half fresh added
      → TreeStep fixed old new
  leaf_swap : (parent : ℕ) (side : Bool) (lower fresh : ℕ) →
      LeafSwap (In old.born) fixed.opening fixed.key old.child new.child fixed.top parent side lower fresh →
      TreeStep fixed old new
  cut : (grandparent : ℕ) (side : Bool) (parent : ℕ) (half : Bool) (lower sibling : ℕ) →
      CutsOut old.child new.child grandparent side parent half lower sibling →
      IsSpanned fixed.key old.child fixed.top grandparent → TreeStep fixed old new
  none : new.child ≡ old.child → TreeStep fixed old new

-- A reader, who only loads, stands at a node in a state. He begins at node 0; then the tree may change, and what was born
-- stays so, or he goes on by his key to the child that he loads. Each of these states is in a set, that of the states seen.
pub data ComesTo (fixed : Fixed) (seen : TreeState → Bool) (k : ℕ) : TreeState → ℕ → Type 0 where
  begins : {state : TreeState} {x : ℕ} → x ≡ 0 → k < fixed.top → IsGood fixed state → seen state ≡ true →
      ComesTo fixed seen k state x
  changes : {old new : TreeState} {x : ℕ} → ComesTo fixed seen k old x → TreeStep fixed old new →
      ((z : ℕ) → old.born z ≡ true → new.born z ≡ true) → IsGood fixed new → seen new ≡ true → ComesTo fixed seen k new x
  goes_on : {state : TreeState} {x y : ℕ} → ComesTo fixed seen k state x → IsInternal x →
      y ≡ next_node fixed.key state.child k x → ComesTo fixed seen k state y

-- a leaf has a value as it is asked for
abbrev pub Has : Fixed → (ℕ → Bool) → ℕ → Type 0
Has fixed asked x = asked (fixed.value x) ≡ true

-- What a reader finds at a leaf is what the tree had of his key in one of the states seen: the key, with what he asks of its
-- value, exactly if the tree had it so.
pub record WasInOne (fixed : Fixed) (seen : TreeState → Bool) (asked : ℕ → Bool) (k leaf : ℕ) : Type 0 where
  pub state : TreeState
  pub among : seen state ≡ true
  pub so : ((fixed.key leaf ≡ k) × Has fixed asked leaf) ↔ FindsLeaf fixed.key state.child (Has fixed asked) k 0

-- so it is wherever he comes to a leaf, however slowly
abbrev pub LooksFindWhatWas : Type 0
LooksFindWhatWas = (fixed : Fixed) (seen : TreeState → Bool) (asked : ℕ → Bool) (k : ℕ) (state : TreeState) (leaf : ℕ) →
    ComesTo fixed seen k state leaf → ¬ IsInternal leaf → WasInOne fixed seen asked k leaf
