-- What a worker can know, and what it learns from an update word.
pub mod Facts
-- The abstract machine: the words of all cards, and the workers.
pub mod Machine
-- The opening state, and the lists of owned keys that it takes.
pub mod Opening
-- Handovers: workers with nothing in hand are split and joined. No word and no other worker changes.
pub mod Handovers
