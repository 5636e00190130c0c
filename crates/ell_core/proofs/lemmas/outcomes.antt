-- A relation of answers and scenes has exactly one pair, or none; and the tests that settle which.
pub mod Decide
-- Each state of the machine and each event have exactly one outcome.
pub mod Events
-- Each event that exchanges a word has exactly one answer and scene after, or its guard does not hold.
pub mod ExchangeRows
-- Each event of a search has exactly one answer and scene after, or its guard does not hold.
pub mod SearchRows
