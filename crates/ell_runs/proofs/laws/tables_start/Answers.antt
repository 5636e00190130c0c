-- The words that a new table has are those of the opening tree.
use Rattle.ell_runs.proofs.lemmas.runs.Starting.{tables_start, starts_are_kept, starts_have_their_keys, first_pass_may_begin}
use Rattle.ell_runs.proofs.laws.tables_start.Goals as goal

pub returns : goal.returns
returns c = record { tables = tables_start; kept = starts_are_kept; keys = starts_have_their_keys; begin = first_pass_may_begin }
