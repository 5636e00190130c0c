-- the view after a step, and what the step has told
pub mod Steps
-- a search that goes a node down
pub mod Searches
-- the view after a row of claims
pub mod Rows
-- the steps by which a pass asks for a card
pub mod Claiming
-- nodes of a card that a pass knows to be dead
pub mod DeadNodes
-- what a pass has retired of them stays retired
pub mod Retiring
