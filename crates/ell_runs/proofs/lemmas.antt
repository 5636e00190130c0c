-- What is known of the ranks and the levels of nodes.
pub mod Ranks
-- words of updates, of fields, and lists of keys
pub mod words
-- what a pass knows and was told, after what it knew and was told
pub mod views
-- what a pass knows, by names of cards
pub mod named
-- passes in their seats, and what a step owes the rule
pub mod seats
-- each step call as an event of the machine
pub mod stepping
-- how a table begins, and how its passes part and come together
pub mod lifetimes
-- the tree that the table's own words make, and what it says
pub mod own_words
-- runs of step calls
pub mod runs
