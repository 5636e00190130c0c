-- No word changes, and no card is in hand.
use Rattle.ell_core.proofs.lemmas.following.Lawful.{splits_lawful, joins_lawful}
use Rattle.ell_core.proofs.laws.steps.handovers_are_lawful.Goals as goal

pub returns : goal.returns
returns c = record { split = splits_lawful; join = joins_lawful }
