-- Any other worker is not there, and owns nothing.
use Rattle.ell_core.proofs.lemmas.following.OnlyWorker.{one_owns_all, only_owns_all}
use Rattle.ell_core.proofs.laws.premises.one_worker_owns_all.Goals as goal

pub returns : goal.returns
returns c = record { opening = one_owns_all; later = only_owns_all }
