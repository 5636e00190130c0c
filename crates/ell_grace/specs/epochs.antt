-- The state that the protocol of epochs is about, and its steps.
pub mod Grace
-- What its steps keep, and what was gone when a slot is taken.
pub mod Sound
