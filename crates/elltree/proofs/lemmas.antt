-- a handle as a box, and its pointer and back
pub mod AsBox
-- the keys of a host's pairs
pub mod HostPairs
-- calls on the handle of a slot
pub mod Calling
-- further handles that are refused
pub mod Parting
-- a handle that is put together again
pub mod Rebuilt
-- what is seen of a look that has ended
pub mod Looking
