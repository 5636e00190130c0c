-- A list of two keys can open.
pub mod CanOpen
-- The opening state has the invariant.
pub mod Invariant
-- Keys of a list, and a search for one.
pub mod KeyLists
-- One worker that owns all keys, as an opening from an ascending list of them.
pub mod OneOwner
-- The workers of an opening: their ledgers after each entry, and who owns which keys by the entries.
pub mod Owners
-- The tree of the opening words where there are no start keys: three nodes, in order.
pub mod Ranges
-- Which keys an opening has.
pub mod StartKeys
-- The tree over the start keys, over plain functions: in order, with these keys.
pub mod StartTree
-- The words at the start are those of the branches.
pub mod StartWords
