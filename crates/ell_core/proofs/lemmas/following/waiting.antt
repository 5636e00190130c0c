-- Which cards wait for their flag, in every state that the invariant holds of.
pub mod Cards
-- What an event does to the cards that wait.
pub mod Events
