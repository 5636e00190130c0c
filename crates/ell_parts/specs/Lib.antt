-- A list of operations parted among workers.
pub mod PartedOps
-- The parts of workers, as they are made.
pub mod Made
-- When a list of workers is no parting of a list of operations.
pub mod Faults
-- Replies with the positions that they are for, put back into the order of the positions.
pub mod Gathering
-- Where the ranges of keys begin.
pub mod Ranges
-- what its public clauses cite of the crate below
pub use Rattle.ell_ops.specs.KeySet
pub use Rattle.ell_ops.specs.Meaning
