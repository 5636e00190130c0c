-- Turn by turn, and nothing was won before.
use Rattle.ell_runs.proofs.lemmas.runs.Starting.{runs_from_starts}
use Rattle.ell_runs.proofs.laws.runs_from_starts_are_lawful.Goals as goal

pub returns : goal.returns
returns c = runs_from_starts
