-- The faults of one level of the command line, one after the other.
pub mod Levels
-- A walk without a fault stops at no `help`, and where a subcommand is required it stops at one.
pub mod Stops
-- Words without a fault leave rows whose first value its option takes.
pub mod Fits
-- Each option with a default has a row.
pub mod Defaults
-- What the row of an option gives.
pub mod Options
-- A parse comes to the same wherever the names of a list of names lie.
pub mod Places
