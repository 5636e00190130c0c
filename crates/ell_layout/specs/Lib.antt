-- Where the words of a table stand in one list: the claim word is word 0, and then each card has twelve words.
pub mod Layout
-- The words of the machine as functions: those of Info go by the card, those of the tree by the node.
pub mod Words
-- What a card says, what fills it, and on which side of a node an exchange or a card's key is.
pub mod Cards
-- The balanced tree over keys that are there at the start: which card has which of its nodes.
pub mod Branches
-- Its branches are halves, and it is no deeper than need be.
pub mod Balanced
-- The words of a table that opens with such a tree.
pub mod Start
-- What a write and a filling do to the words, and where each word stands.
pub mod Laws
-- what its public clauses cite of the crate below
pub use Rattle.ell_word.specs.Node
