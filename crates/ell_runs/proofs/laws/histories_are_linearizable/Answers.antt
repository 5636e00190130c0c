-- The history has the events of the run's turns, and its order is that of the run's calls.
use Rattle.ell_runs.proofs.lemmas.runs.Histories as of_runs
use Rattle.ell_runs.proofs.laws.histories_are_linearizable.Goals as goal

pub returns : goal.returns
returns c = of_runs.histories_are_linearizable
