-- What the call of an answer tells, and the ledgers of a sound state.
use Rattle.ell_runs.proofs.lemmas.runs.OfReached.{table_answers_are_the_maps, ledgers_tell_the_tree, tree_keys_are_owned}
use Rattle.ell_runs.proofs.laws.table_answers_are_the_maps.Goals as goal

pub returns : goal.returns
returns c = record { answers = table_answers_are_the_maps; ledgers = ledgers_tell_the_tree; owned = tree_keys_are_owned }
