-- By the cases of the acts.
use Rattle.ell_core.proofs.lemmas.following.Lawful.{events_lawful}
use Rattle.ell_core.proofs.laws.steps.events_are_lawful.Goals as goal

pub returns : goal.returns
returns c = events_lawful
