-- Ranges of one tree in order: those of children, and the walks that meet a key.
pub mod Bounds
-- A node that is on course for a key stays so, whatever an insert or a removal does to the tree.
pub mod Courses
-- Two trees that agree on the nodes of a set that is closed under children agree on ranges, walks and courses.
pub mod Frames
-- An internal node with two leaves takes the place of a leaf.
pub mod Inserts
-- A reached node has one range, since the walk for its key passes it once.
pub mod OneRange
-- A node p with a leaf l is cut out: the child of its parent g that p was is now the other child of p, w.
pub mod Removes
-- A leaf takes the place of a leaf of the same key.
pub mod Replaces
