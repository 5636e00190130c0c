-- the addresses of the words of a node
pub mod Addresses
-- updates and their words
pub mod Updates
-- words of a list and of the machine, at a field of a card
pub mod Fields
-- keys: which are among a list, and which are a ledger's
pub mod Keys
-- lists of numbers that rise
pub mod Ascending
-- lists, read by their places
pub mod Lists
