-- The wins of a card are those up to its stage.
use Rattle.ell_core.proofs.lemmas.runs.Lawful.{wins_ordered}
use Rattle.ell_core.proofs.laws.schedules.wins_are_in_order.Goals as goal

pub returns : goal.returns
returns c = wins_ordered
