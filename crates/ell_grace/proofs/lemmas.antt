-- What was taken out of the tree is out of it, and one card took it.
pub mod outs
-- What was not gone when an operation began.
pub mod since
-- So it is in every run.
pub mod Runs
-- Reclamation by epochs, which knows no tree.
pub mod epochs
-- The premises of the laws can be met.
pub mod Premises
-- A run in which the node that an edge insert names is gone.
pub mod edge
-- What is dead stays dead, and is in no tree.
pub mod dead
-- How far tags have come since an earlier state.
pub mod tags
