-- The parts take the worker's place and one at the end.
use Rattle.ell_core.proofs.lemmas.keeping.Partings.{test_parts, parting_splits}
use Rattle.ell_core.proofs.laws.premises.every_parting_is_a_split.Goals as goal

pub returns : goal.returns
returns c = record { partings = test_parts; splits = parting_splits }
