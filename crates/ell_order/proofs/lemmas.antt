-- The steps of mixing undone.
pub mod Mixes
-- What a list does to one key comes from its operations on that key alone.
pub mod OnKey
-- Numbered elements that pass a test.
pub mod Numbered
-- Lists that have the same items of one key.
pub mod Kept
-- Orders that keep each key's operations change no answer.
pub mod Reordered
-- The rank of a key, one key after the other, or one list.
pub mod Ranks
-- The keys that a list leaves, and their ranks, one operation after the other.
pub mod Leaving
-- The turns of operations, one operation after the other.
pub mod Turning
-- Places sorted by their keys, and turns by their rounds.
pub mod Sorting
-- Elements in the order of a number that each has, those of one number as they stood.
pub mod Buckets
