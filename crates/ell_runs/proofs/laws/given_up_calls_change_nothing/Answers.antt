-- A card that has changed the tree is never known backed, so the pass that has it in hand does not give its call up.
use Rattle.ell_runs.proofs.lemmas.runs.GivingUp.{given_up_calls_change_nothing}
use Rattle.ell_runs.proofs.laws.given_up_calls_change_nothing.Goals as goal

pub returns : goal.returns
returns c = given_up_calls_change_nothing
