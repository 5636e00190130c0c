-- The tree that the words make: walks, reached nodes, the keys of the tree, and when it is lawful.
pub mod Tree
-- Flat trees: which nodes have a block, and the key of a node over two keys.
pub mod Flat
-- The rank of a node, which rises along paths.
pub mod Rank
-- Room enough for a walk over the tree.
pub mod Room
