-- what passes that share keys may do, and that they go on to share them
pub mod Sharers
-- start keys that are real
pub mod Starts
