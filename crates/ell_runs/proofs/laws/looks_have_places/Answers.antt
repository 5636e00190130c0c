-- The place of a look is that of the state which it is of.
use Rattle.ell_runs.proofs.lemmas.runs.Placing as of_runs
use Rattle.ell_runs.proofs.laws.looks_have_places.Goals as goal

pub returns : goal.returns
returns c = of_runs.looks_have_places
