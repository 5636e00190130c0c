-- How one stage of a card follows another, and what an event does to the stages of the cards and to their wins.
pub mod Advances
-- The effective ledgers by the stages of the cards: what counts where a card has made something of its key, nothing, or the same.
pub mod Below
pub mod Counts
-- Which cards have come to their end: what has ended has ended later too.
pub mod Ended
-- When the flag of a card stands.
pub mod Flags
-- What a card's stage allows to be known holds of the words, and what its words show that it has made, its stage has made.
pub mod Holding
-- Of what kind each card is after an event: what later words and stages keep.
pub mod Kinds
-- The keys of nodes and cards in later words are as they were, and so are the sides on which they are.
pub mod LaterKeys
-- What the stages say of each other.
pub mod Order
-- How much of a kind a card has won by its stage, and what an act adds.
pub mod Sums
-- What was told of a card stays so in later words.
pub mod Told
-- Which cards wait for their flag.
pub mod Waiting
-- Cards that go above internal nodes of a flat tree, and cards that replace leaves.
pub mod Edges
