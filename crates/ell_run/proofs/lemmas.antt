-- A pass of which workers use only the keys of their operations.
pub mod Apart
-- Which workers have something to do.
pub mod Busy
-- Each key's operations stand in one part, in the order of the list: so the parts alone say what becomes of the key.
pub mod ByParts
-- What a closed tree leaves.
pub mod Closed
-- Sums of counts, as far as they fit, and the cards that come of them.
pub mod Counts
-- Empty pieces between those of busy workers.
pub mod Filling
-- How a worker does a front of its part, operation by operation.
pub mod Fronts
-- The pieces of all workers have a reply for each operation that was done, and it is that of one thread.
pub mod Gathering
-- A pass in two halves: what is done with each comes to what is done with the whole.
pub mod Halves
-- Why operations that workers leave are not done.
pub mod NotDone
-- The keys of rows of workers.
pub mod Keys
-- What is late completes what was done to what one thread does.
pub mod Leftovers
-- Marks of the positions that are answered.
pub mod Marks
-- A tree as it opens: the keys that its first pass owns, which of them are present, and who can set to work with it.
pub mod Opened
-- How many steps workers make.
pub mod Paid
-- Gathering items that have one reply of one thread for each position does not fail but for memory, and gives these.
pub mod Replies
-- What a row of workers leaves, worker by worker.
pub mod Rows
-- In rounds the operations on a key stand side by side, so what is known of the key before each goes by the one before it.
pub mod SideBySide
-- A search among start keys, which ascend.
pub mod StartKeys
-- What a run of a text tells of it, where its answer went out and where the write was cut short.
pub mod Told
