-- what an exchange of an update word leaves of a pass, by its answer
pub mod Outcomes
-- which nodes are retired by a word of a slot
pub mod RetiredBits
-- which numbers have slots
pub mod Slotted
