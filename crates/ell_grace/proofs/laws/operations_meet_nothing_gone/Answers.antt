use Rattle.ell_grace.proofs.lemmas.Runs.{every_state_has_outs, operations_meet_nothing_gone, looks_meet_nothing_gone}
use Rattle.ell_grace.proofs.laws.operations_meet_nothing_gone.Goals as goal

pub returns-clause-outs : goal.returns-clause-outs
returns-clause-outs c = every_state_has_outs

pub returns-clause-operations : goal.returns-clause-operations
returns-clause-operations c = operations_meet_nothing_gone

pub returns-clause-looks : goal.returns-clause-looks
returns-clause-looks c = looks_meet_nothing_gone
