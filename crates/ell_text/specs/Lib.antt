-- The text that answers a file of operations.
pub mod Answer
-- The start keys and the operations of a bulk text, or its first fault.
pub mod Bulk
-- What reading does to a reader.
pub mod Input
-- The most that a text may have, or ask for.
pub mod Limits
-- What one line of a bulk text says.
pub mod Line
-- The lines of a text, and the parts of one line.
pub mod Lines
-- Numbers in decimal digits, as a text spells them.
pub mod Number
-- The operations that lines say which stand behind an operation.
pub mod Operations
-- What a step of an `Output` does.
pub mod Output
-- Bytes on their way to a writer, and the count of those that it took.
pub mod Sending
-- The versions of a bulk text: in version 2 keys have values.
pub mod Version
-- replay texts: their lines, the script of one, what is written for it, and what its faults tell
pub mod replays
-- what its public clauses cite of the crates below
pub use Rattle.ell_ops.specs.Meaning
pub use Rattle.ell_word.specs.Node
