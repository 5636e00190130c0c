-- what a pass knows after a call, by the words that the call has
pub mod Afters
-- facts that are known, beside more that were learnt
pub mod Facts
-- entries that were told, beside more of them
pub mod Entries
-- entries that name nodes of which others tell that they were met
pub mod NamedEntries
-- the depths that were told of nodes
pub mod Depths
-- where a search stands
pub mod SeenNodes
