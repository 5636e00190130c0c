-- What a run answers, and what its faults tell.
pub mod Answered
-- A list applied part by part: operations on other keys do not matter, so each worker may go at its own pace.
pub mod ByParts
-- What the workers leave undone.
pub mod Late
-- What a run is told beside its list, and when it may be.
pub mod Limits
-- The pieces of workers: the replies of each to a front of its part.
pub mod Pieces
-- Which fault of a run each fault of a call within it is.
pub mod RunFault
-- What a run of a bulk text may be told.
pub mod Settings
-- How many steps workers make at most.
pub mod Steps
-- Why workers do not come to their end.
pub mod WorkFault
-- Workers with passes of one tree.
pub mod Work
-- what its public clauses cite of the crates below
pub use Rattle.ell_ops.specs.Contents
pub use Rattle.ell_ops.specs.KeySet
pub use Rattle.ell_ops.specs.Meaning
pub use Rattle.ell_word.specs.Node
pub use Rattle.ell_order.specs.Orders
pub use Rattle.ell_text.specs.Answer
pub use Rattle.ell_text.specs.Bulk
pub use Rattle.ell_text.specs.Input
pub use Rattle.ell_parts.specs.PartedOps
pub use Rattle.ell_tree.specs.Ends
pub use Rattle.ell_tree.specs.Ledgers
pub use Rattle.ell_tree.specs.Milestones
-- How many cards the operations of a run can take.
pub mod Reservation
