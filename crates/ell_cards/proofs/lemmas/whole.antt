-- what passes know of epochs, seat by seat
pub mod Seats
-- which step calls leave a pass at rest
pub mod Rests
-- the announcement of a pass, as its code keeps it
pub mod Standings
-- what is dead in a table's tree
pub mod Ages
-- calls that pass by what is shown, and by what is known
pub mod Lifts
-- the trees of a table, and its epochs where a word of a card changes
pub mod Trees
-- words of fields that are no child words
pub mod Fields
-- nodes that a pass tells apart
pub mod Apart
-- steps of the tree as those of a whole table
pub mod Calling
-- splits and joins
pub mod Handovers
pub mod Parting
-- the words of the epoch and of announcements
pub mod Words
-- the steps of epochs
pub mod Steps
-- those of their words of slots
pub mod Slots
-- what passes have retired for their cards
pub mod Retired
-- that no slot stays in use for nothing
pub mod Leaks
-- what passes let go
pub mod Duties
pub mod LeaksOfCalls
pub mod LeaksOfHandovers
-- these steps as those of a whole table
pub mod Going
-- and those on the words of slots
pub mod Freeing
-- dead nodes that passes retire there
pub mod Retiring
-- the words and the epochs of a table as it opens
pub mod Opens
-- so it starts whole
pub mod Starting
-- what nobody may touch any more
pub mod Untouched
-- the card whose flag a pass has lost
pub mod Losing
-- slots that passes take for their cards in hand
pub mod TakingSlots
-- rows of numbers that a pass takes at once
pub mod Skipping
-- how many slots are in use
pub mod InUse
-- what passes have seen of the history
pub mod Seeing
-- each call stands once in the calls of passes
pub mod OwnCalls
-- and what a pass may know of the history after a step call
pub mod Sighting
-- and after a load by which it sees all of it
pub mod Telling
-- where looks stand in it
pub mod LookPlaces
-- and a load by which a look sees that
pub mod LookTelling
