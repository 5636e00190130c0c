-- what a call adds, and two passes as one
pub mod Additions
-- what a tree and its passes begin with
pub mod Openings
-- what is found once all was added
pub mod Totals
