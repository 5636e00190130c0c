-- The run goes on by the event.
use Rattle.ell_core.proofs.lemmas.runs.Passed.{passed_on}
use Rattle.ell_core.proofs.laws.premises.events_pass_on.Goals as goal

pub returns : goal.returns
returns c = passed_on
