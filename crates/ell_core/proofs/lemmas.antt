-- the words of the machine
pub mod words
-- the tree that the words make, over plain functions: paths and nodes, ranges of keys, what a new link does to them
pub mod tree
-- how far each card has come
pub mod stages
-- the opening state
pub mod opening
-- each event in each state has exactly one outcome
pub mod outcomes
-- every event keeps the invariant: a room for each family of events, and here what they share
pub mod keeping
-- what follows from the invariant of one event, and of one state
pub mod following
-- of every schedule
pub mod runs
