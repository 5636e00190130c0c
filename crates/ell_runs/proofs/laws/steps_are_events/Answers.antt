-- Call by call.
use Rattle.ell_runs.proofs.lemmas.stepping.AllCalls.{steps_are_events}
use Rattle.ell_runs.proofs.lemmas.runs.OfReached.{steps_stay_inside}
use Rattle.ell_runs.proofs.laws.steps_are_events.Goals as goal

pub returns : goal.returns
returns c = record { events = steps_are_events; inside = steps_stay_inside }
