-- what a host's box holds
pub mod Owned
-- the handle of a slot
pub mod Slots
-- a handle's tree, and how a handle is opened and makes another
pub mod Handles
-- what a refusal of the tree is as a handle's
pub mod Refusals
-- what the tree's calls do through a handle
pub mod Calls
-- the codes that calls return
pub mod Codes
-- what the code of a call tells of a handle
pub mod Told
-- what each code says
pub mod Texts
