-- a state of the machine: its words, cards, facts, workers, the opening, handovers
pub mod state
-- what each event does: its row of the event table, refusals, schedules
pub mod acts
-- the tree that the words make
pub mod tree
-- when a state is sound, and small states that are not
pub mod soundness
-- the invariant, with how far each card has come
pub mod history
-- the laws, as statements
pub mod statements
-- what its public clauses cite of the crates below
pub use Rattle.ell_ops.specs.Contents
pub use Rattle.ell_ops.specs.Meaning
pub use Rattle.ell_word.specs.Node
