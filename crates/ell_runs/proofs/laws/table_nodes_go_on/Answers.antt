-- Nodes of the machine go on so, and those that came into the tree have the table's own words.
use Rattle.ell_runs.proofs.lemmas.runs.OfReached.{table_nodes_go_on}
use Rattle.ell_runs.proofs.laws.table_nodes_go_on.Goals as goal

pub returns : goal.returns
returns c = table_nodes_go_on
