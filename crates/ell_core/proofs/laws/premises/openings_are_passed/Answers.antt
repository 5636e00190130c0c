-- By a run of no events.
use Rattle.ell_core.proofs.lemmas.runs.Passed.{openings_passed, openings_open}
use Rattle.ell_core.proofs.laws.premises.openings_are_passed.Goals as goal

pub returns : goal.returns
returns c = record { passed = openings_passed; openings = openings_open }
