-- Events of a run, with what they lead to.
pub mod Events
-- A run of 31 events.
pub mod Run
-- What is gone after it.
pub mod Gone
