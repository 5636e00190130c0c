-- Words of the machine: what a write changes, what the words at a node are by card and field, and when two are equal.
pub mod Writes
-- The words that a list is: what they are at each field, and what a write to the list does to them.
pub mod Listed
-- What a filling leaves in each field of its card.
pub mod Stored
-- Fields that are written as words of a table, and claims by such words.
pub mod Claims
-- A write is seen at its own address alone, and the words at a node are words of its card.
pub mod Seen
-- What fields that are written leave.
pub mod NewWords
-- The branches of a balanced tree: the way down to each card, and how long it is.
pub mod Branches
-- How deep the cards of a balanced tree stand, and how deep at most.
pub mod Depths
-- The leaves at the start, and the fields of the root.
pub mod Start
-- The words at the start as they are written, card by card.
pub mod Growing
-- What fills a card at a leaf.
pub mod Puts
