-- Later words and stages keep them.
use Rattle.ell_core.proofs.lemmas.runs.Lawful.{fixed, stages_rise}
use Rattle.ell_core.proofs.laws.schedules.claimed_cards_are_fixed.Goals as goal

pub returns : goal.returns
returns c = record { cards = fixed; nodes = stages_rise }
