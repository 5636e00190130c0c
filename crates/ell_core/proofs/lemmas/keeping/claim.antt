-- The claim keeps the invariant.
pub mod Claim
-- The card that a claim for a delete fills is sound, and the claimer has it in hand: what its search saw gives each clause.
pub mod DeleteCard
-- The words after a claim: the next card is filled, and all else is as it was.
pub mod Filling
-- What a claim leaves of the tree: no node that came into it is on the card, so its keys and children stay, and with them
-- ranges, walks and courses.
pub mod Frames
-- The card that a claim for an insert fills is sound, and the claimer has it in hand: what its search saw gives each clause.
pub mod InsertCard
-- Who may take a card, and the card that is discarded then.
pub mod Taking
-- The words after a claim are sound, if the claimed card is.
pub mod Words
-- The workers stay sound after a claim.
pub mod Workers
