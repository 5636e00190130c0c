-- a tree that starts empty and shares each key, and what its passes were answered
pub mod Sharing
-- what a thread that tells does, and one that is told
pub mod Telling
-- what a thread does that raises a flag, and one that looks for it
pub mod Flagging
