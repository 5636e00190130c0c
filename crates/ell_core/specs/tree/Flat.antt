use Rattle.std.specs.Prelude.{◌≡◌, ◌≢◌, ℕ, ◌<◌, ◌⊎◌, true, not, min, max}
use Rattle.ell_word.specs.Node.{IsInternal, card}
use Rattle.ell_block.specs.Blocks.{IsBranchOf, InBlockOf}
use Rattle.ell_layout.specs.Branches.{depth_of, greatest_depth}
use Rattle.ell_layout.specs.Words.{Words, IsLeaf, has_block}
use Rattle.ell_trie.specs.Tries.{Opening}

-- the opening tree of a tree that is flat from this card on: the nodes of the cards before. Of a tree that is not flat, from
-- 0 on, all nodes count as nodes of the opening tree.
abbrev pub opening_from : ℕ → Opening
opening_from from = record {
  holds = λ x. not (has_block from x);
  depth = λ x. depth_of from (card x);
  most = greatest_depth from;
}

-- A key is in the block of a node, if the node has one: an internal node has the block whose middle its key is, and a leaf
-- the block of its key alone.
pub record IsInBlock (w : Words) (x k : ℕ) : Type 0 where
  pub inner : IsInternal x → has_block w.flat_from x ≡ true → InBlockOf (w.key x) k
  pub leaf : IsLeaf x → has_block w.flat_from x ≡ true → w.key x ≡ k

-- The key of an internal node over two keys: in a flat tree the branch of the two, in any other tree the greater one. Two
-- keys that are the same have no branch.
pub record IsNodeKey (from first second node_key : ℕ) : Type 0 where
  pub greater : (from ≡ 0) ⊎ (first ≡ second) → node_key ≡ max first second
  pub branch : 0 < from → first ≢ second → IsBranchOf (min first second) (max first second) node_key
