-- Nodes of the machine go on so, and those that came into the tree have the table's own words.
use Rattle.ell_runs.proofs.lemmas.runs.Shares.{shares_add_up}
use Rattle.ell_runs.proofs.laws.shares_add_up.Goals as goal

pub returns : goal.returns
returns c = shares_add_up
