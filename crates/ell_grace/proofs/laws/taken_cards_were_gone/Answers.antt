use Rattle.ell_grace.proofs.lemmas.epochs.Grace.{grace_starts, grace_goes_on, taken_cards_were_gone}
use Rattle.ell_grace.proofs.laws.taken_cards_were_gone.Goals as goal

pub returns-clause-starts : goal.returns-clause-starts
returns-clause-starts c = grace_starts

pub returns-clause-steps : goal.returns-clause-steps
returns-clause-steps c = grace_goes_on

pub returns-clause-taken : goal.returns-clause-taken
returns-clause-taken c = taken_cards_were_gone
