-- Rows of keys whose lengths are powers of two: where two of them meet, one is in the other.
pub mod Rows
-- Blocks and their halves nest, and two keys have a branch.
pub mod Nesting
-- What divides the middle of a block, and that a number is the middle of one block.
pub mod Middles
-- Branches and blocks by xor and shifts.
pub mod Shifts
