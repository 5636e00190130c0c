-- What it is for an act to keep the invariant.
pub mod KeepsInvariant
-- what every event leaves of the other cards and workers: they go on as they were
pub mod going_on
-- the events of a search: begin, again, leave; upd; down; answer
pub mod search
-- the claim of a card, with its filling
pub mod claim
-- the exchanges of update words: iflag, iunflag, dflag, mark, dunflag and backtrack
pub mod updates
-- the child exchange of an insert, ichild
pub mod insert_child
-- the child exchange of a delete, dchild
pub mod delete_child
-- Every event keeps the invariant.
pub mod AllEvents
-- What a worker may learn: of each card what its stage allows; and where it does nothing else, the invariant is kept.
pub mod Learning
-- An event that changes one worker, while the keys that lead somewhere stay: the workers are sound after it.
pub mod OneWorker
-- The premises of the laws of handovers are met: each parting of an idle worker's ledger is a split, each union a join.
pub mod Partings
-- What an operation puts at its key, and the cards in hand of such operations.
pub mod Puts
-- Workers in new seats: where each key of an old worker lands at one new one, the invariant holds on.
pub mod Reseats
-- An event leads where another answer and scene lead that are equal to its own.
pub mod SameOutcome
-- Handovers keep the invariant: workers with nothing in hand are split and joined, and their keys go with them.
pub mod Seats
