-- Each node that a look comes to was on the walk from the root since the look began.
use Rattle.ell_core.proofs.lemmas.runs.Stretches.{looks_of_one_state}
use Rattle.ell_core.proofs.laws.schedules.looks_are_of_one_state.Goals as goal

pub returns : goal.returns
returns c = looks_of_one_state
