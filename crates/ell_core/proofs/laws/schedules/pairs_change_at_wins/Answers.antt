-- By the law of one event.
use Rattle.ell_core.proofs.lemmas.runs.Lawful.{pairs_change}
use Rattle.ell_core.proofs.laws.schedules.pairs_change_at_wins.Goals as goal

pub returns : goal.returns
returns c = pairs_change
