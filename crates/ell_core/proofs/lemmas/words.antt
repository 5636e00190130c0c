-- A clean update word by its remainder, which tells it from flags and marks.
pub mod CleanWords
-- What an exchange of a word says and leaves, where it finds what it expects, and where not.
pub mod Exchanged
-- Words of a later state: nothing changed, one update word rose, or one child did.
pub mod Later
-- A word is that of the update that it says.
pub mod Packed
-- Whether two facts are one: then they are equal, and each is itself.
pub mod SameFact
-- A card's own key by its kind, and the side of its parent on which an insert's key is.
pub mod Sides
-- What is learned is known, and what was known stays known.
pub mod Learned
