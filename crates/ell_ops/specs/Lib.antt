-- Sets of keys. A set is what it answers: whether it has each key.
pub mod KeySet
-- What there is: keys with their values.
pub mod Contents
-- What an operation answers and leaves, and the same for a list of them, applied by one thread.
pub mod Meaning
-- Which keys are present, read off the list without applying it: the last insert or delete of a key decides. And whose
-- value a present key has: that of the insert that found it absent, or of the last swap since that found the value
-- which it replaces.
pub mod LastWriter
-- Two lists in one, by the keys of their items.
pub mod ByKey
