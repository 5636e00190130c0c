-- A fact that holds of the words is of a claimed card; and what a claimed card's words say stays.
pub mod Claimed
-- A fact that holds of the words holds ever after, known or not.
pub mod HoldsLater
-- Every fact that holds before an event holds after it.
pub mod Last
-- Each event sets marks only over the words that the cards' searches read.
pub mod MarksKept
