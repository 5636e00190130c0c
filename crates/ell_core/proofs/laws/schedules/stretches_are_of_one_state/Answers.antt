-- The keys of a stretch all come by the leaf in one state since the reader came to it, and those outside the block of a node are not there.
use Rattle.ell_core.proofs.lemmas.runs.Stretches.{stretches_of_one_state, edges_of_one_state}
use Rattle.ell_core.proofs.laws.schedules.stretches_are_of_one_state.Goals as goal

pub returns : goal.returns
returns c = record { leaves = stretches_of_one_state; edges = edges_of_one_state }
