use Rattle.ell_order.proofs.lemmas.Mixes.{mixed_back, mixed_again, unmixed_within}
use Rattle.ell_order.proofs.laws.mixing_can_be_undone.Goals as goal

pub returns-clause-back : goal.returns-clause-back
returns-clause-back c = mixed_back

pub returns-clause-again : goal.returns-clause-again
returns-clause-again c = mixed_again

pub returns-clause-within : goal.returns-clause-within
returns-clause-within c = unmixed_within
