-- The wins of a card up to any stage are in order.
use Rattle.ell_runs.proofs.lemmas.runs.WinsOfRuns.{table_wins_are_in_order}
use Rattle.ell_runs.proofs.laws.table_wins_are_in_order.Goals as goal

pub returns : goal.returns
returns c = table_wins_are_in_order
