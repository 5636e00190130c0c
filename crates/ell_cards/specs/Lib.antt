-- where a step call touches memory
pub mod Addresses
-- that what a pass names lies in slots
pub mod InSlots
-- what the passes of a table have seen of its history
pub mod AllSeen
-- what is shown of a pass says of each run that leads there
pub mod InRuns
-- what the words of slots say
pub mod SlotWords
-- what a pass retires of the nodes that its card in hand made dead
pub mod Retiring
-- what contracts see of a memory and of a seat
pub mod Memories
-- what contracts see of a table and of a pass
pub mod Models
-- nodes that a pass tells apart by what words hold of their numbers
pub mod Apart
-- what is shown of all this where words have 64 bits
pub mod Shown
-- what a step call leaves of a pass, as it is shown
pub mod ShownTakings
-- the announcements of passes and the epoch: where their words stand, and what passes know of them
pub mod Epochs
-- what the steps on the words of epochs and of slots leave as it was
pub mod Frames
-- the kinds of trees, and the plan by which each opens
pub mod Kinds
-- what is dead in a table's tree, and was when passes were pinned
pub mod Ages
-- some of the three nodes of a card
pub mod CardNodes
-- that dead nodes are retired
pub mod RetiringInSlots
-- changes that are over
pub mod Ended
-- the rule of a table: its tree, its history, and its epochs
pub mod Whole
pub mod SeenLaws
-- what the safe epochs of passes tell
pub mod EpochLaws
-- how a table ends
pub mod Closed
-- a pass as its code keeps it
pub mod Inside
-- what the generic step asks and tells
pub mod Stepping
-- rows of numbers that a pass takes at once
pub mod Skipping
-- the kinds of steps of which gates are told
pub mod StepKinds
-- how a pass asks for a card, and what comes of that
pub mod Claiming
-- what its public clauses cite of the crates below
pub use Rattle.ell_ops.specs.KeySet
pub use Rattle.ell_ops.specs.Meaning
pub use Rattle.ell_word.specs.Node
pub use Rattle.ell_word.specs.Word
pub use Rattle.ell_layout.specs.Cards
pub use Rattle.ell_layout.specs.Layout
pub use Rattle.ell_core.specs.state.Machine
pub use Rattle.ell_core.specs.state.Opening
pub use Rattle.ell_layout.specs.Words
pub use Rattle.ell_core.specs.acts.Searching
pub use Rattle.ell_core.specs.statements.Effects
-- which keys go to a child
pub use Rattle.ell_core.specs.statements.Readers
-- what the memory of a table whose cards come back has of its tree
pub mod RefinementLaws
pub mod LettingGo
pub mod Refinement
-- what the memory of a tree that grows has of it, by names of cards
pub mod NamedRefinement
-- that no slot stays in use for nothing
pub mod Leaks
-- what passes know, and what runs are, in the words of the crate below
pub use Rattle.ell_runs.specs.Discarded
pub use Rattle.ell_runs.specs.Calls
pub use Rattle.ell_runs.specs.Changes
pub use Rattle.ell_runs.specs.Dead
pub use Rattle.ell_runs.specs.Depths
pub use Rattle.ell_runs.specs.Guards
pub use Rattle.ell_runs.specs.Holding
pub use Rattle.ell_runs.specs.LookPlaces
pub use Rattle.ell_runs.specs.Looking
pub use Rattle.ell_runs.specs.Naming
pub use Rattle.ell_runs.specs.Plans
pub use Rattle.ell_runs.specs.Sayings
pub use Rattle.ell_runs.specs.Seeing
pub use Rattle.ell_runs.specs.Sights
pub use Rattle.ell_runs.specs.Starts
pub use Rattle.ell_runs.specs.Touching
pub use Rattle.ell_runs.specs.Views
pub use Rattle.ell_runs.specs.declared.call.Call
pub use Rattle.ell_runs.specs.declared.view.Told
pub use Rattle.ell_runs.specs.declared.view.View
