-- A flat tree is a trie in every state, and from node 0 to an internal node ranks rise to that of the node at most.
use Rattle.ell_core.proofs.lemmas.runs.Flat.{flat_trees_are_shallow}
use Rattle.ell_core.proofs.laws.schedules.flat_trees_are_shallow.Goals as goal

pub returns : goal.returns
returns c = flat_trees_are_shallow
