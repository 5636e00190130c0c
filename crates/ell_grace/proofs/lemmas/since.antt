-- What was gone is gone later.
pub mod Later
-- Where the cards go that have not ended is not gone.
pub mod Places
-- How much a card has won.
pub mod Much
-- What the cards name that had not ended was not gone.
pub mod Cards
-- A walk comes by nothing that was gone.
pub mod Walks
-- A worker learns of no card that had ended.
pub mod Facts
-- What a worker comes to know was not gone when it began.
pub mod Workers
-- A state that comes from an earlier one.
pub mod Coming
