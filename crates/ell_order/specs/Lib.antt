-- A number scrambled: the finalizer of MurmurHash3.
pub mod Mixing
-- The rounds in which the keys of a list are run.
pub mod Rounds
-- Operations in another order that keeps each key's.
pub mod Orders
-- Where the operations of a list stand, in the order in which it is run.
pub mod Places
-- what its public clauses cite of the crate below
pub use Rattle.ell_ops.specs.Contents
pub use Rattle.ell_ops.specs.KeySet
pub use Rattle.ell_ops.specs.Meaning
