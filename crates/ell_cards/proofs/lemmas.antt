-- words of updates, of fields, and lists of keys
pub mod words
-- what a pass knows and was told, after what it knew and was told
pub mod views
-- what is shown of what a pass knows, where words have 64 bits
pub mod shown
-- passes in their seats, and what a step owes the rule
pub mod seats
-- how a table begins, and how its passes part and come together
pub mod lifetimes
-- tables with their epochs
pub mod whole
-- what the memory of a table whose cards come back has of its tree
pub mod refinement
-- the same, by names of cards
pub mod named
