-- What a worker knows against std's ordered set of facts.
pub mod Knowledge
-- The keys of a worker against std's ordered map, whose look-ups compare where a ledger looks for equal keys.
pub mod Ledgers
-- The words of children and leaves with their tags, in a list of words.
pub mod Links
-- What the code of an event looks at is of the table, by the invariant.
pub mod Ready
-- A world before and after a turn of one of its workers.
pub mod Turns
-- The faults of an opening: a set of the keys so far finds the first entry that repeats one.
pub mod Faults
-- The workers of a world in a list, and their ledgers after each entry of an opening.
pub mod Workers
-- A world with the words and workers of an opening is that opening, and has the invariant.
pub mod NewWorld
-- What an event learns that fails for want of memory.
pub mod Wants
-- Claims for puts, in a tree that is not flat.
pub mod Puts
