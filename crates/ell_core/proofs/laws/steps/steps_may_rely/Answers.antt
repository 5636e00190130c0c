-- Read off the invariant.
use Rattle.ell_core.proofs.lemmas.following.Reliance.{may_rely}
use Rattle.ell_core.proofs.laws.steps.steps_may_rely.Goals as goal

pub returns : goal.returns
returns c = may_rely
