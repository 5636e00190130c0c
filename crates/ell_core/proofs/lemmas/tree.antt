-- Blocks: which nodes have one, and what is below a node whose block lacks a key.
pub mod Blocks
-- Nodes on course: the next one is so too, and a key in its block is in its range.
pub mod Courses
-- A tree has at most one real key more than internal nodes, so that a list with the places of the walk's stack holds its keys.
pub mod FewKeys
-- A tree has at most two nodes a key, and three more.
pub mod FewNodes
-- An ordered tree with the two greatest keys in their places is lawful.
pub mod Lawful
-- The nodes below a node in one list: the node, then those below its left child, then those below its right one.
pub mod Nodes
-- What holds of each element of a list and each later one, and members of joined lists.
pub mod Pairs
-- Paths through the tree that the words make, and what is below a node.
pub mod Paths
-- What is known of the ranks of nodes.
pub mod Ranks
-- Ranges and paths: the nodes that have a range are those reached from node 0, and where the walks for a key go.
pub mod Reached
-- The real keys of the leaves in a list of nodes, with their values; below a node of a lawful tree they ascend.
pub mod RealPairs
-- How low the nodes of a walk's stack may be, and so how long the stack is.
pub mod Stacks
-- A walk over a lawful tree with a stack of nodes: what it has made of the tree, and what each of its turns does.
pub mod Walk
-- The key of a node over two keys: there is exactly one.
pub mod NodeKeys
