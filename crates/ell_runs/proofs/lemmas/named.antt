-- words by names
pub mod NamedWords
-- what a pass was told, by names
pub mod NamedTold
-- facts, and what was in the way of an operation
pub mod NamedHindrances
-- calls that begin, end and read
pub mod NamedSearches
-- exchanges
pub mod NamedExchanges
-- all calls but claims
pub mod NamedSteps
-- claims
pub mod NamedClaims
-- the turns of a flag
pub mod NamedTurns
-- names that cards get one after the other
pub mod Names
-- other cards that get names
pub mod NamedGrows
-- where what is known by names comes from
pub mod NamedOrigins
-- what calls ask
pub mod NamedGuards
-- calls that may be made
pub mod NamedLifts
-- the turns of a flag as turns of the tree
pub mod NamedReach
-- what calls tell
pub mod NamedTellings
-- cards that a pass knows stay below a number
pub mod NamedBelow
-- words that calls find
pub mod NamedFinds
-- passes that begin, part and come together
pub mod NamedHandovers
-- and more numbers, passes that begin, part and come together, and claims
pub mod NamedBounds
