-- Neither entry is at fault.
use Rattle.ell_core.proofs.lemmas.opening.CanOpen.{two_keys_open}
use Rattle.ell_core.proofs.laws.premises.two_keys_can_open.Goals as goal

pub returns : goal.returns
returns c = two_keys_open
