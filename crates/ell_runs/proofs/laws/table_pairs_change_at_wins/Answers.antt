-- By the law of one event, for the tree of the table's own words has the machine's keys and values; and a card that wins is in hand.
use Rattle.ell_runs.proofs.lemmas.runs.OfReached.{table_pairs_change_at_wins, table_changes_are_operations}
use Rattle.ell_runs.proofs.laws.table_pairs_change_at_wins.Goals as goal

pub returns : goal.returns
returns c = record { pairs = table_pairs_change_at_wins; operations = table_changes_are_operations }
