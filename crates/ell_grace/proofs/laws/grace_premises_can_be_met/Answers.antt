use Rattle.ell_grace.proofs.lemmas.Premises.{begins_when_gone, takes_when_busy}
use Rattle.ell_grace.proofs.laws.grace_premises_can_be_met.Goals as goal

pub returns-clause-begins : goal.returns-clause-begins
returns-clause-begins c = begins_when_gone

pub returns-clause-takes : goal.returns-clause-takes
returns-clause-takes c = takes_when_busy
