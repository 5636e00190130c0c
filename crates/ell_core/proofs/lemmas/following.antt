-- each of the small unsound states breaks its clause
pub mod small_states
-- the facts that hold, known or not: each holds ever after
pub mod facts
-- the cards that wait for their flag
pub mod waiting
-- What an answer says: the reply of the operation on the set of the keys that the worker's ledger has present, and the
-- ledger after it has the set that the operation leaves.
pub mod AnswerMeaning
-- What every event does: from the invariant, the lemmas on keys, ledgers, knowledge and facts.
pub mod EventLaws
-- Every event is lawful: it keeps the invariant, and changes keys, ledgers, knowledge and facts as it should.
pub mod Lawful
-- What an event does to the ledgers and the knowledge of all workers.
pub mod Ledgers
-- Where there is one worker, it owns every key.
pub mod OnlyWorker
-- What the invariant says to a worker that owns every key, and to one that stands at a leaf.
pub mod Owners
-- What a step may rely on, in every state that the invariant holds of.
pub mod Reliance
-- What the rows of the event table do to the ledger and the knowledge of their worker.
pub mod RowLedgers
-- A state that the invariant holds of is sound.
pub mod Sound
-- The keys of the tree before and after an event, by the walks for them.
pub mod TreeKeys
-- A walk that comes by no parent that was cut out comes by none later.
pub mod Walks
-- What a search has seen since it began is of no card that had ended then.
pub mod Since
-- Which update words have become clean since.
pub mod Cleans
-- What a delete whose flag was taken back leaves to the later ones of the same nodes.
pub mod Backtracks
-- Which card has set a flag or a mark at a node since, where the update word has risen.
pub mod SetSince
-- Which searches, and which cards that were flagged since, are of words that were read before.
pub mod Early
-- Where no exchange of a child is won, the children of nodes stay.
pub mod Children
-- What is on course for a key stays so, and where its child on the key's side changes, it is on the walk from the root.
pub mod Looks
-- So it is for all keys of a stretch at once.
pub mod Stretches
