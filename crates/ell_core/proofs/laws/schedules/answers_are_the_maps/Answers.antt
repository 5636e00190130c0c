-- By the law of one event.
use Rattle.ell_core.proofs.lemmas.runs.Lawful.{answers_map}
use Rattle.ell_core.proofs.laws.schedules.answers_are_the_maps.Goals as goal

pub returns : goal.returns
returns c = answers_map
