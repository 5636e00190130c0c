-- What a bulk has with one line more.
pub mod Bulks
-- The version of some lines, and of the same with one line more.
pub mod Versions
-- The first fault of a text, and what its lines say, a line at a time.
pub mod Operations
-- Operations that lines say behind others, and a text that is read to its end by them.
pub mod ReadingOn
-- The draft of the lines that are not skipped, a line at a time.
pub mod Drafts
-- What a reader's known bytes say of what it gave.
pub mod Reading
-- The lines of a text that is cut behind a line feed.
pub mod Halves
-- The lines of a text are those that bstr cuts.
pub mod CutLines
-- The first line of a text, and what one says that is spelt plainly.
pub mod FirstLines
-- Numbers in decimal digits, and what std's `parse` reads of them.
pub mod Digits
-- Steps of an `Output`, one after another.
pub mod Putting
-- The pieces of a line, cut off one after another.
pub mod Pieces
-- The first fault of a replay text, and its script, a line at a time.
pub mod Scripts
-- What one line says at the places of a replay text.
pub mod Said
-- What a replay of the bytes that were read tells.
pub mod Replayed
-- Steps of sending, one after another.
pub mod Sending
