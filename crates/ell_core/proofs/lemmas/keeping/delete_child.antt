-- The delete's child exchange keeps the invariant: it is won where the card is marked and has not cut yet, and lost after
-- that. A won one takes the delete's key from the tree, and no other.
pub mod DChild
-- The delete's child exchange: the stages after it.
pub mod Stages
-- The delete's child exchange: where it cuts, and what that does to the ranges, walks and courses of the tree.
pub mod Tree
-- The delete's child exchange: the words stay sound, with the card's stage one further.
pub mod Words
-- The delete's child exchange: the workers stay sound, and the key of the delete is the only one that counts otherwise.
pub mod Workers
