use Rattle.ell_grace.proofs.lemmas.edge.Gone.{edge_node_is_gone}
use Rattle.ell_grace.proofs.laws.edge_nodes_may_be_gone.Goals as goal

pub returns : goal.returns
returns c = edge_node_is_gone
