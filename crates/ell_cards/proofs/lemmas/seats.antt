-- and in slots that have words
pub mod Placed
-- a step of a pass, as the generic step owes it
pub mod Taken
-- the insides of a table and a pass, where the generic step opens them
pub mod Opened
-- a pass in whose seat a slot was taken
pub mod SlotTaken
