-- What a line of a replay text says at its place, or its fault.
pub mod ReplayLine
-- The pieces of a line, where a form may have so many.
pub mod Pieces
-- The script of a replay text, or its first fault.
pub mod Script
-- A script while its text is read, a line at a time.
pub mod Draft
-- The text of a replay.
pub mod Trace
-- What a replay of a text writes, and what its faults tell.
pub mod Replayed
-- Which fault of a replay each fault of a call within it is.
pub mod ScriptFault
