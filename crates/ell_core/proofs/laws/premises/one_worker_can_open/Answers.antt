-- An ascending list has no key twice.
use Rattle.ell_core.proofs.lemmas.opening.OneOwner.{one_worker_opens}
use Rattle.ell_core.proofs.laws.premises.one_worker_can_open.Goals as goal

pub returns : goal.returns
returns c = one_worker_opens
