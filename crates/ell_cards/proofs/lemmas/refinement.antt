-- which cards have won their flag after a call
pub mod Winning
-- and which have by what passes know
pub mod KnownWon
-- the words that calls touch
pub mod Touched
-- memory after a call
pub mod Calls
-- so a call keeps the refinement
pub mod Keeping
-- memory where passes know something else
pub mod Views
-- splits and joins
pub mod Handovers
-- memory as a table opens
pub mod Opens
-- memory after a step on the words of epochs
pub mod Epochs
-- and where a slot is taken
pub mod Taking
pub mod TakingSlots
-- and so does all that a pass names
pub mod Placed
-- cards that lie in their slots at once are few
pub mod Few
-- who wins a child exchange knows it, and some pass does from there on
pub mod Known
-- child exchanges expect links that are near those in the tree
pub mod Near
-- a pass that is ready tells nodes that it has met apart
pub mod Apart
-- and from those to which child words lead
pub mod Found
-- cards that were discarded
pub mod Discarded
