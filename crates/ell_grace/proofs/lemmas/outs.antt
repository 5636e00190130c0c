-- What a card has taken out had come into the tree, and the card has exchanged a child.
pub mod Taken
-- What no act brings back, and the siblings of deletes.
pub mod Kept
-- By what a card has newly taken out, what was taken out goes on.
pub mod Newly
-- A child exchange that an insert's card wins.
pub mod Inserts
-- A child exchange that a delete's card wins.
pub mod Deletes
-- So it is after every event.
pub mod Events
