-- slots that passes have in hand
pub mod NamedHands
-- slots that are taken, and words that are stored there
pub mod NamedTakes
-- flags that are won
pub mod NamedFlags
-- flags that are lost
pub mod NamedLosses
-- cards that die, announcements that are pinned, and memory that grows
pub mod NamedAges
-- nodes that are told apart
pub mod NamedApart
-- numbers for cards that get names
pub mod NamedRoom
-- words of cards that have won their flags, which stay by names
pub mod NamedKept
-- turns before a flag
pub mod NamedLeads
-- turns of a flag
pub mod NamedFlagTurns
-- words of a slot in hand
pub mod NamedStores
-- memory after the turns of a flag
pub mod NamedFlagged
