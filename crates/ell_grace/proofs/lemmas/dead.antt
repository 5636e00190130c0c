-- What later words and stages keep of what is dead.
pub mod Frames
-- What is used, by what a card has newly brought.
pub mod Used
-- Each leaf that is used is in the tree's links, or was taken out.
pub mod Kept
-- So it is after every event.
pub mod Events
-- What never comes is in no tree, and a card whose internal node is dead has ended.
pub mod Out
-- What came into the tree is in it, or was taken out, or nobody uses it.
pub mod Came
-- So it is in every run, and what was dead stays dead.
pub mod Runs
