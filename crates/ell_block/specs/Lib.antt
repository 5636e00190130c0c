-- Blocks of keys, their halves and their middles, and the branch of two keys, with what is proved of them.
pub mod Blocks
