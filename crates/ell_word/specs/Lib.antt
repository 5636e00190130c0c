-- Node numbers, and the keys above all others. Card c has the internal node 4 c, the left leaf 4 c + 1 and the right
-- leaf 4 c + 2.
pub mod Node
-- Update words: four times the card, and the state.
pub mod Word
-- Child words: the number of a link, whose low 64 bits are 2^38 times the tag, and the node.
pub mod Link
