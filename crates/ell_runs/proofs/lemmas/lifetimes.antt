-- an opening table has a machine
pub mod Openings
-- lists of the words at the start
pub mod StartLists
-- passes with nothing in hand
pub mod Idle
-- the parts of a pass's keys
pub mod Parts
-- a split is one of the machine
pub mod Splits
-- the keys and the ledger of two passes in one
pub mod Unions
-- a join is one of the machine
pub mod Joins
