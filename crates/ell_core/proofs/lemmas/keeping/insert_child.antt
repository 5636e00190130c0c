-- What the child exchange of an insert that is won does to the tree: one statement for both kinds of insert's cards.
pub mod Card
-- The child exchange of an insert that is won: the stages and children afterwards, and what each card says.
pub mod Cards
-- The child exchange of an insert keeps the invariant. It is won exactly where the card waits for it, and then its key comes
-- into the tree; else it was made before, and the worker learns that.
pub mod IChild
-- A card that replaces a leaf: its right leaf takes the place of a leaf of its key.
pub mod Leaf
-- The nodes of a card that adds a key: their keys, their values, and what stands below its internal node.
pub mod Nodes
-- A card that adds a key to a tree that is not flat: an internal node with two leaves takes the place of a leaf.
pub mod Tree
-- A card that adds a key to a flat tree, in the place of a leaf or above an internal node.
pub mod Flat
-- The child exchange of an insert that is won: the nodes and the tree afterwards, and with them all words.
pub mod Words
-- The child exchange of an insert that is won: who has the card in hand, and the workers afterwards.
pub mod Workers
