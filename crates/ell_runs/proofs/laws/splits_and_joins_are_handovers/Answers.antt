-- No word changes, and ledgers are parted or united.
use Rattle.ell_runs.proofs.lemmas.lifetimes.Joins.{joins_are_handovers}
use Rattle.ell_runs.proofs.lemmas.lifetimes.Splits.{splits_are_handovers}
use Rattle.ell_runs.proofs.laws.splits_and_joins_are_handovers.Goals as goal

pub returns : goal.returns
returns c = record { splits = splits_are_handovers; joins = joins_are_handovers }
