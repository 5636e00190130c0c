-- what is shown of each state that has a machine
pub mod Statements
-- what was told lasts, and lists of what was told
pub mod Entries
-- the machine that words and passes are, and what an event of one pass leaves of the machine
pub mod Seats
-- what an event leaves of the machine, by what it does to the words
pub mod Frames
-- a claim, a flag and a mark leave the ledger
pub mod LedgersStay
-- what a pass names is in its table
pub mod Named
-- what a step call leaves of a pass's keys and its share, and that its word is in the table
pub mod Staying
