-- A word that is itself a borrow, which the borrow of an invariant holds: how one step opens both.
pub mod Borrows
-- One word among those that are at home, or among those that are lent to a seat.
pub mod Shelves
-- What a step does to all that is owned, how the words begin, and how they end.
pub mod Moves
-- The machine values of a base and of a block.
pub mod Made
-- That a shared reference to the words shows what a step needs.
pub mod Shown
-- Room that becomes a block, one value more in it, and its room again.
pub mod Rooms
-- That words and seats may go to other threads.
pub mod Sent
-- What an act does that lends a stretch of words, or returns it.
pub mod Stretches
-- What is lent to a seat, after it wrote to one of these words.
pub mod Seats
-- A rule of two words, which shows what a rule can allow and what it cannot.
pub mod ToyRule
