-- what steps keep
pub mod Keeping
-- what was in the way, and that it is over
pub mod Meeting
-- what was in the way of a try, by how it ended
pub mod Halting
-- a try after its search
pub mod Trying
-- steps that read a word
pub mod Reading
-- child words, and what they say
pub mod Links
-- a search, node by node
pub mod Searches
-- a mark, won or lost
pub mod Marking
-- the start of a search
pub mod Beginning
-- which cards steps take
pub mod CardsTaken
-- a card that is claimed
pub mod Claiming
-- what a card says
pub mod Filling
-- what is stored of a card
pub mod Storing
-- the deed of an operation that was answered
pub mod Called
-- the steps of some tries
pub mod Owning
-- how many steps
pub mod Counts
-- a flag, won or lost
pub mod Flagging
-- how passes begin, part and come together
pub mod PassParts
-- what a pass sees of the history in a call
pub mod Sights
-- and in a look
pub mod LookPlaces
-- how a tree ends
pub mod Closing
-- the bounds of a flat tree
pub mod Flat
-- what the steps of a look leave of a pass
pub mod Looks
-- a look that goes on, from the nodes that it keeps
pub mod Cursors
-- a try that something hindered is counted once it is given up
pub mod Hindrances
-- how many milestones of cards a pass knows of, and why each try that is hindered shows it one more
pub mod Milestones
-- an insert or a swap where its search ended, and once it is done
pub mod Putting
-- what is known of a card that is over
pub mod Retiring
-- a pass that may let its card in hand go
pub mod LettingGo
-- calls that are made of several operations
pub mod Computing
-- a call that removes a key if it has a value
pub mod Removing
-- what a pass was answered that has seen all of the history, as of one thread
pub mod OneThread
-- the steps of the rounds of such a call
pub mod Rounds
-- how many stretches of keys a look goes through that goes on
pub mod Stretching
-- what a scan has found and gathered as it goes on
pub mod Scans
-- what is so where each card has words of its own
pub mod Plain
