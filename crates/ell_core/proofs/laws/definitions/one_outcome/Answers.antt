-- Each event in each state has exactly one outcome: by the cases of what can be refused, and of its act.
use Rattle.ell_core.proofs.lemmas.outcomes.Events.{one_outcome}
use Rattle.ell_core.proofs.laws.definitions.one_outcome.Goals as goal

pub returns : goal.returns
returns c = one_outcome
