-- An update word does not fall by an exchange, and a card goes to a later stage: what is said of the cards and words goes on.
pub mod Cards
-- dflag keeps the invariant, won or lost.
pub mod DFlag
-- dunflag and backtrack keep the invariant, won or lost: a delete's flag is exchanged to clean.
pub mod DUnflag
-- A worker that exchanges a flag for the card in its hand, of either kind: what follows where it wins and where it loses.
pub mod Flag
-- What follows the exchange of an update word for a card whose flag was won, where the worker learns something and no more.
pub mod Follows
-- iflag keeps the invariant, won or lost.
pub mod IFlag
-- iunflag keeps the invariant, won or lost.
pub mod IUnflag
-- The invariant after such an exchange, from what is particular to that word, that card and the worker that did it.
pub mod Invariant
-- mark keeps the invariant: won, and lost to its own card's mark or to another word.
pub mod Mark
-- The node that a delete marks: which flags and marks are sound there, and on which side the leaf's sibling is.
pub mod MarkedNode
-- An update word does not fall by an exchange, and a card goes to a later stage: the words are sound.
pub mod Words
-- An update word does not fall by an exchange, and a card goes to a later stage: what is said of the workers goes on.
pub mod Workers
