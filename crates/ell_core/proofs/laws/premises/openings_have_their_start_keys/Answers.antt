-- What is found in the words at the start is a start key, and so is what a ledger has present.
use Rattle.ell_core.proofs.lemmas.opening.StartKeys.{openings_have_start_keys}
use Rattle.ell_core.proofs.laws.premises.openings_have_their_start_keys.Goals as goal

pub returns : goal.returns
returns c = openings_have_start_keys
