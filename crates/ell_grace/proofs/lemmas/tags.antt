-- Tags are as they were, or a card has changed the child word.
pub mod Changes
-- The tag under a flag whose card has made its child exchange is the next one after the one that it expected.
pub mod Sound
-- Tags rise by the cards that change their words.
pub mod Since
-- So it is of a state that comes from an earlier one.
pub mod Coming
