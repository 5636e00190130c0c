-- Each node to which a look has come was met by the walks for all keys of its stretch in one state since the look began.
use Rattle.ell_runs.proofs.lemmas.runs.Beginnings.{stretches_are_in_order}
use Rattle.ell_runs.proofs.laws.stretches_are_in_order.Goals as goal

pub returns : goal.returns
returns c = stretches_are_in_order
