-- What is later than a later state is later: of words, of stages and of marks.
pub mod Chains
-- The laws of every schedule: each is a reading of what a run keeps.
pub mod Lawful
-- The premises of the laws of schedules are met: openings are passed, and events lead on.
pub mod Passed
-- Each statement that is near to a law and false fails in the small run.
pub mod Refuted
-- Every run keeps the invariant: from the law of one event to the law of every schedule.
pub mod Runs
-- A small run: two workers, of which one inserts key 5 into the empty tree.
pub mod SmallRun
-- The wins of a card up to each stage come in the order of an insert, of a delete that cuts, or of one that goes back.
pub mod Wins
-- A look for a key finds what was so in one state of the run.
pub mod Looks
-- A reader finds how all keys of a stretch were in one state of the run.
pub mod Stretches
-- Flat trees are shallow.
pub mod Flat
