-- A sort and a dedup give the keys of a list, each once, ascending.
pub mod DistinctKeys
-- Two ascending lists of keys in one.
pub mod Merges
-- Two ascending lists in one, by the keys of their items.
pub mod ByKey
-- Keys with their values against std's ordered maps.
pub mod Pairs
-- The element at a place of a list that grows, is cut or is written.
pub mod Places
-- The last writer of a key and of its value, one operation after the other.
pub mod Presence
-- Lists of numbers that rise.
pub mod Rising
-- Sets of keys against std's ordered sets, whose tests compare where ours look for equal numbers.
pub mod Sets
-- What a swap makes of a value.
pub mod Swaps
