-- What a fact says of the words, what a card has made by the words, and the ledger that counts what a flagged card has
-- done already.
pub mod Holds
-- Small trees: as it was opened, with key 5, with 5 and 7, and with 5 on its way out.
pub mod SmallTrees
-- The sound state.
pub mod Sound
-- Small states whose ledgers, searches or strangers are unsound, and what they are made of.
pub mod Unsound
-- Small states in which facts are known that do not hold: for each fact one for each part of its meaning that can fail
-- alone.
pub mod UnsoundFacts
-- Small states whose names or flags are unsound.
pub mod UnsoundFlags
-- Small states whose tree is not lawful.
pub mod UnsoundTrees
