-- the parser's model, whatever the command line: its walk over the words, its faults, and the options that it takes
pub mod parser
-- What single words come to that are written out, as `run` and `--help`.
pub mod WrittenOut
-- Words without a fault name the subcommand `run` or `replay`.
pub mod Subcommands
-- Words come to the same wherever the names of the partings lie.
pub mod PartingNames
-- Words that are taken to `run` leave the options that it takes.
pub mod OptionsTaken
-- What a parse answers to words that are taken, refused or ask for help.
pub mod Parses
-- The one word `run` asks for the default settings, and the one word `replay` for a replay.
pub mod PlainRuns
