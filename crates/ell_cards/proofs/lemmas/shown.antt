-- words that are cut, and the links in them
pub mod CutWords
-- entries that were told
pub mod ShownTold
-- words of the card in hand
pub mod ShownWords
-- calls that begin, end, and read
pub mod ShownSearches
-- calls that claim, store and exchange
pub mod ShownChanges
-- all calls
pub mod ShownSteps
-- what calls ask
pub mod ShownGuards
-- calls that may be made
pub mod ShownCalls
-- what was stored of the card in hand
pub mod ShownStores
-- what calls tell
pub mod ShownTellings
-- what contracts say of passes
pub mod ShownViews
-- nodes that are dead by it
pub mod ShownDead
-- what a pass is to have retired before it lets its card in hand go
pub mod ShownLettingGo
-- what calls do to the words of a table
pub mod ShownActs
-- which calls can be shown
pub mod ShownKinds
-- the low bits of nodes
pub mod ShownLow
-- what a step call leaves of a pass, and what is shown of it
pub mod Reaching
-- what is shown of a pass says of each run that leads there
pub mod InRuns
-- how a table ends, by what is shown of its first pass
pub mod Ending
