-- trees in order, whichever keys their internal nodes have
pub mod order
-- Blocks by their middles alone.
pub mod Middles
-- Paths in a trie, and the rank of its nodes.
pub mod Paths
-- Nodes on course, and what is found below a node.
pub mod Courses
-- Trees that agree on the nodes that were born.
pub mod Frames
-- Cuts.
pub mod Cuts
-- Swaps of leaves.
pub mod Swaps
-- Links above an old node.
pub mod links
-- What walks find stays true.
pub mod Truths
-- Readers.
pub mod Readers
-- A small trie.
pub mod SmallTrie
