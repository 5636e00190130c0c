-- What is below a new node's children, and on which side of it.
pub mod Sides
-- Which nodes are reached afterwards, and in which ranges.
pub mod Ranges
-- The order afterwards.
pub mod Order
-- Which keys are met afterwards.
pub mod Finds
-- The trie afterwards.
pub mod Tries
-- Nodes on course afterwards.
pub mod Courses
-- The laws of links and of inserts.
pub mod Laws
