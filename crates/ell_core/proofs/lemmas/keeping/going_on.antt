-- What each event leaves of the cards: what a card says goes on.
pub mod Cards
-- A card in hand says the same in words where it goes where it went, and of a worker that stands at the same place.
pub mod InHand
-- A child exchange settles the key of its card, and no other: the workers are sound after it.
pub mod OneKey
-- What each event leaves of the stages of the cards: what a stage says of the nodes that its card names goes on.
pub mod Stages
-- What each event leaves of the workers: where they stand, what they saw, and the cards that they have in hand go on.
pub mod Workers
