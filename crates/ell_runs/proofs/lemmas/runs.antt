-- runs of a table, turn by turn
pub mod TurnsOfRuns
-- what a run of a table makes of the machine's words and stages
pub mod GoingOn
-- runs of a table as runs of the machine, and what they win for each card
pub mod WinsOfRuns
-- what runs of a table leave of its nodes
pub mod NodesOfRuns
-- tables as they start, and runs from there
pub mod Starting
-- what a turn makes of a pass that begins nothing by it
pub mod OwnSeat
-- the nodes by which the walk for a key came since a state
pub mod Walked
-- the nodes to which a look has come, and by which keys it did since it began
pub mod Glances
-- where the searches of operations come to in runs
pub mod Searched
-- the point of each call
pub mod Points
-- calls as those of a map
pub mod AsMap
-- where looks begin in runs from a start
pub mod Beginnings
-- a pass that looks owns what it owned, and reads its own changes
pub mod OwnLooks
-- the call that a pass answered last, and its point
pub mod Answering
-- the value that a delete took
pub mod Taking
-- the keys that passes take for shared
pub mod Sharing
-- the shares that the passes of a table have
pub mod Shares
-- where turns lead a table, and what they make its steps, splits and joins owe
pub mod Reaching
-- laws of each table that turns have led to
pub mod OfReached
-- what passes know of the claim word
pub mod Readings
-- each card that was claimed was told to some pass
pub mod Claims
-- nodes that searches have gone through were met
pub mod Met
-- nodes that passes name were met
pub mod Named
-- what passes won, counted
pub mod Won
-- how often, by the cards' stages and the claim word
pub mod Counts
-- cards in hands were claimed by their passes
pub mod Hands
-- cards that nobody has in hand any more do not end
pub mod Abandoned
-- how many numbers have what, and how many hands a card
pub mod HowMany
-- what others did while a pass tried
pub mod Contended
-- exchanges that can't be told otherwise than they went
pub mod Outcomes
-- what a pass with a card in hand has read is not in its way
pub mod InHand
-- what has hindered a pass since its search began
pub mod Hindered
-- what comes to its end while a search goes on
pub mod Meanwhile
-- how many tries of a pass others hindered
pub mod Tries
-- what no step can tell
pub mod Tellings
-- How much was read before a stretch of a run.
pub mod EarlySums
-- Which turns win a flag or an exchange of a child, by what is won for each card.
pub mod FlagTurns
-- What a run in which no exchange of a child is won makes of cards, turn by turn.
pub mod Stretching
-- Counting: what is mapped one to one, and what is on levels.
pub mod Counting
-- In a stretch in which no exchange of a child is won, few flags are.
pub mod FewFlags
-- No tree is higher than its table has cards.
pub mod Heights
-- a small run, in which each step call is made
pub mod SmallRun
-- lists of calls with their points, and what one thread that makes them replies
pub mod LinearizingLists
-- the states of a run, one after the other
pub mod LinearizingStates
-- what a pass has in hand while its call goes on
pub mod LinearizingCalls
-- turns by which the tree changes
pub mod LinearizingTurns
-- the points of the calls of a run from a start
pub mod LinearizingPoints
-- one sequence of the calls of a run
pub mod Linearizing
-- what a call took that was answered, and where it stands in that sequence
pub mod Took
-- what a pass answered last among the calls of a run
pub mod LinearizingAnswers
-- calls that were given up
pub mod GivingUp
-- passes that were joined to others
pub mod Spent
-- calls that are in hand still
pub mod Pending
-- the history of a run
pub mod Histories
-- the places of looks
pub mod Placing
-- What step calls touch was there when the operation began.
pub mod Touching
-- And it was not dead.
pub mod Alive
-- what was taken out and what is used, by the stages of a table's machine
pub mod Used
-- how far the tags of child words have come since an earlier state
pub mod TagsOfRuns
-- a pass at rest touches nothing but the root
pub mod Rests
