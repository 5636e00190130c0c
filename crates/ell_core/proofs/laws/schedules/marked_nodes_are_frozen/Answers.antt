-- Later words keep a marked node.
use Rattle.ell_core.proofs.lemmas.runs.Lawful.{frozen}
use Rattle.ell_core.proofs.laws.schedules.marked_nodes_are_frozen.Goals as goal

pub returns : goal.returns
returns c = frozen
