-- The two in one take the first one's place; no key has two owners.
use Rattle.ell_core.proofs.lemmas.keeping.Partings.{union_joins, workers_join}
use Rattle.ell_core.proofs.laws.premises.every_union_is_a_join.Goals as goal

pub returns : goal.returns
returns c = record { unions = union_joins; workers = workers_join }
