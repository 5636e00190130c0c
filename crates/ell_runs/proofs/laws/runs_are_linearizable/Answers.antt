-- The sequence has the calls in the order of their points.
use Rattle.ell_runs.proofs.lemmas.runs.Linearizing as by_points
use Rattle.ell_runs.proofs.lemmas.runs.LinearizingAnswers.{last_answers_are_of_calls}
use Rattle.ell_runs.proofs.laws.runs_are_linearizable.Goals as goal

pub returns : goal.returns
returns c = record { runs = by_points.runs_are_linearizable; last = last_answers_are_of_calls }
