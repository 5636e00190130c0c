-- what a table opens with
pub mod Plans
-- what a pass knows, in words for it
pub mod Views
-- that a pass has met the nodes that it names
pub mod Met
-- how deep the nodes are that a pass has met
pub mod Depths
-- what a pass knows of its table's history
pub mod Sights
-- how each step call changes what a pass knows
pub mod Changes
-- which words a card says
pub mod Sayings
-- what each step call asks of what the pass knows
pub mod Guards
-- the step calls as one table: the word that each touches, what it does to it, its event, the change, the guard, what
-- it tells
pub mod Calls
-- what a pass knows, by names of cards
pub mod Named
-- passes all of whose cards have names
pub mod NamedBelow
-- cards that are taken by name
pub mod NamedTakings
-- names that cards get one after the other
pub mod Names
-- states of a table
pub mod States
-- turns of its passes, and runs of a table, one turn after the other
pub mod Turns
-- what turns do, by the table's own words and what its passes know
pub mod TurnEffects
-- tables as they start, and where runs lead from there
pub mod Starts
-- cards that were discarded
pub mod Discarded
-- what passes have seen of their table's history
pub mod Seeing
-- a small run, in which each step call is made
pub mod SmallRun
-- laws of each table that turns have led to, by its own words
pub mod OwnWords
-- what passes know of the claim word and of claims
pub mod Readings
-- what comes to its end while a search goes on
pub mod Meanwhile
-- how many tries of a pass others may hinder
pub mod Contention
-- What can happen while no exchange of a child is won.
pub mod Stretches
-- what a look for any key finds, and when it was so
pub mod Looking
-- what no step can tell
pub mod Tellings
-- what a pass names is in its table
pub mod Naming
-- the machine that a table has, wherever turns lead, and what the invariant has to keep of what passes know
pub mod Machines
-- step calls, splits and joins as the machine's
pub mod Laws
-- runs of a table as the machine's
pub mod Runs
-- what runs of a table win for each card, after what its machine won
pub mod RunLaws
-- the shares that the passes of a table have
pub mod Sharing
-- calls, and the point at which each takes effect
pub mod Changing
-- one sequence of the calls of a run, which replies as they do
pub mod Linearizing
-- histories of tables, and that they are linearizable
pub mod Histories
-- the point of the call that a pass answered last
pub mod Answering
-- the value that a delete took
pub mod Taking
-- calls that were given up
pub mod GivingUp
-- the places of looks in the sequence of calls
pub mod Placing
-- and in the history that passes have seen
pub mod LookPlaces
-- what its public clauses cite of the crates below
pub use Rattle.ell_ops.specs.KeySet
-- What step calls touch, and what was there before.
pub mod Touching
-- What step calls touch was not dead, and what passes know to be dead.
pub mod Dead
pub use Rattle.ell_ops.specs.Meaning
pub use Rattle.ell_word.specs.Node
pub use Rattle.ell_word.specs.Word
pub use Rattle.ell_layout.specs.Cards
pub use Rattle.ell_layout.specs.Layout
pub use Rattle.ell_core.specs.state.Machine
pub use Rattle.ell_core.specs.state.Opening
pub use Rattle.ell_layout.specs.Words
pub use Rattle.ell_core.specs.acts.Searching
pub use Rattle.ell_core.specs.statements.Effects
-- which keys go to a child
pub use Rattle.ell_core.specs.statements.Readers
-- the card that a pass has in hand, and what it is to have retired before it lets that go
pub mod Holding
