-- The rank of a key among distinct keys, and the worker that it falls to.
pub mod Ranks
-- Which owners are lawful.
pub mod Partings
-- Parts as they are made.
pub mod Making
-- The first position of each key so far, and whether each key so far has one owner.
pub mod Splits
-- Items, placed one after the other, and what each fault of them says.
pub mod Placings
-- The first keys of the workers' ranges, and the worker that a key falls to by them.
pub mod Ranges
