-- Where a worker of a tree that is not flat claims a card.
pub mod Claims
-- What the invariant says of words and a worker by numbers alone: which nodes and cards are of the table.
pub mod Fits
-- The words and workers of a world as its code keeps them, and what they are to the machine.
pub mod Inside
-- A world as contracts see it: plain lists, and the machine that they are.
pub mod World
-- A world as its code keeps it.
pub mod WorldInside
