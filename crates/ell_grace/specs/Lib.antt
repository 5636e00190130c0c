-- What was taken out of the tree, and what is gone for good.
pub mod Gone
-- What cards name that had not ended at an earlier state.
pub mod Cards
-- What a worker comes to know in one operation.
pub mod Operations
-- What a reader comes to, who only loads.
pub mod Looks
-- An insert's card may name a node that is gone.
pub mod Edges
-- How memory is reclaimed by epochs, whatever lies in it: passes announce epochs, which they read from one word. No
-- tree is in this.
pub mod epochs
-- The premises of the laws can be met.
pub mod Premises
-- A state that comes from an earlier one.
pub mod Since
-- Nodes that are gone or never come.
pub mod Dead
-- How far tags have come since an earlier state.
pub mod Tags
