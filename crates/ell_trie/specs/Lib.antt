-- The search tree as two functions, the key of a node and its child on a side (true is right): which keys lead to a
-- node, and where the walk for a key ends. The tree is the leaf-oriented binary search tree of the paper of 2010.
pub mod Ranges
-- A half of the block of a branch, and a block in it, by numbers alone.
pub mod Halves
-- Tries: trees whose internal nodes have branches as their keys, with how short their paths are.
pub mod Tries
-- The rank of a node, which rises along the paths of a trie.
pub mod Ranks
-- Nodes on course for a key in a trie.
pub mod Courses
-- Links above an old node, as inserts are, with what they keep.
pub mod Links
-- Swaps of leaves, with what they keep.
pub mod Swaps
-- Cuts, with what they keep.
pub mod Cuts
-- What a walk finds before an event and after it.
pub mod Truths
-- Readers, who go on while the tree changes.
pub mod Readers
-- A small trie, and one with an inner key that is no branch.
pub mod Examples
