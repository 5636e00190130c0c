-- what a contract sees of a tree and its passes
pub mod Ledgers
-- how an operation ends
pub mod Ends
-- how a call ends that is made of several operations
pub mod Computing
-- how passes begin, part and come together
pub mod PassParts
-- how a tree ends
pub mod Closing
-- what was in the way, and when it is over
pub mod Hindrances
-- cards that are given out and come to their end, as a pass knows
pub mod Milestones
-- the bounds of a flat tree
pub mod Flat
-- how many steps a pass made
pub mod Counts
-- how many cards a pass took
pub mod CardsTaken
-- how many cards are left
pub mod CardsLeft
-- what the tree's calls ask and promise, a record for each kind of promise
pub mod Promises
-- what steps keep
pub mod Keeping
-- where a search ends
pub mod Searches
-- what helping comes to
pub mod Helps
-- what a try comes to
pub mod Tries
-- the operations and what they answer, on a map, in the words of the crate below
pub use Rattle.ell_ops.specs.declared.op.Op
pub use Rattle.ell_ops.specs.declared.reply.Reply
pub use Rattle.ell_ops.specs.Meaning
pub use Rattle.ell_ops.specs.Contents
pub use Rattle.ell_ops.specs.KeySet
-- what an operation answers that has changed the tree
pub use Rattle.ell_core.specs.statements.Effects
-- how many cards and start keys there may be
pub use Rattle.ell_word.specs.Node
pub use Rattle.ell_core.specs.state.Opening
-- what a contract sees of a pass, and when a tree is refused
pub use Rattle.ell_cards.specs.Models
pub use Rattle.ell_runs.specs.Plans
pub use Rattle.ell_runs.specs.Views
pub use Rattle.ell_runs.specs.Changes
pub use Rattle.ell_runs.specs.declared.view.Hindrance
pub use Rattle.ell_cards.specs.declared.fault.CardFault
pub use Rattle.ell_cards.specs.declared.fault.SplitFault
-- the words of a tree that has ended, and their pairs
pub use Rattle.ell_cards.specs.Closed
pub use Rattle.ell_layout.specs.Words
pub use Rattle.ell_core.specs.tree.Tree
-- what a look for any key leaves of a pass
pub mod Looks
-- and what it has seen of the history, where it seeks the next key
pub mod LookPlaces
-- what scans find
pub mod Scans
-- where a look goes on
pub mod Cursors
-- that what a look found was so in one state of every run that can have led there
pub use Rattle.ell_runs.specs.Looking
pub use Rattle.ell_cards.specs.InRuns
-- what a pass was answered by a call
pub mod Called
-- what a pass was answered that has seen all of the history, as of one thread
pub mod OneThread
-- the history of a tree
pub use Rattle.ell_runs.specs.Seeing
pub use Rattle.ell_runs.specs.Sights
pub use Rattle.ell_runs.specs.declared.view.Act
pub use Rattle.ell_runs.specs.declared.view.Event
pub use Rattle.ell_runs.specs.declared.view.Sight
pub use Rattle.ell_runs.specs.Linearizing
pub use Rattle.ell_runs.specs.Histories
pub use Rattle.ell_runs.specs.declared.view.View
pub use Rattle.ell_cards.specs.Stepping
-- which keys are shared, as a pass knows
pub use Rattle.ell_core.specs.state.Machine
