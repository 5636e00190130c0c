-- How far each card has come: the history that the invariant adds to the words, by the steps of an insert and of a
-- delete in the paper of 2010.
pub mod Stages
-- What holds of every state of a run: the invariant. It is said with a stage for each card. Each record is about one
-- thing, so that an event has to show anew only what is about the words and workers that it changes.
pub mod Invariant
-- What an event leaves and what it adds: words rise, what is filled stays, no fact is lost, and each card's wins come
-- in order.
pub mod Later
