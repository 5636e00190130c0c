-- By the law of one event, over the run.
use Rattle.ell_core.proofs.lemmas.runs.Lawful.{never_lost}
use Rattle.ell_core.proofs.laws.schedules.facts_last.Goals as goal

pub returns : goal.returns
returns c = never_lost
