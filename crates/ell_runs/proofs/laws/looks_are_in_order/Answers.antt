-- Each node that a look comes to was on the walk from the root since the look began; and a pass that looks keeps its ledger.
use Rattle.ell_runs.proofs.lemmas.runs.Beginnings.{looks_are_in_order}
use Rattle.ell_runs.proofs.lemmas.runs.OwnLooks.{looks_read_their_own}
use Rattle.ell_runs.proofs.laws.looks_are_in_order.Goals as goal

pub returns : goal.returns
returns c = record { order = looks_are_in_order; own = looks_read_their_own }
