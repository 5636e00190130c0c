-- The events by which a worker searches, claims a card and ends its operation: guard, answer and effect of each.
pub mod Searching
-- The events that exchange a word: guard, answer and effect of each. An exchange is won where the word has the expected
-- value; a lost one changes no word.
pub mod Exchanges
-- The table of the events, and their refusals.
pub mod Events
-- Schedules, lists of events, and what comes of them.
pub mod Runs
-- What exchanges win for each card, and the orders in which a card wins.
pub mod Wins
