-- The protocol of epochs.
pub mod Grace
