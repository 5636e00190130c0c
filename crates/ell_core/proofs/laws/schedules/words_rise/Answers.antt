-- Later words rise.
use Rattle.ell_core.proofs.lemmas.runs.Lawful.{rise}
use Rattle.ell_core.proofs.laws.schedules.words_rise.Goals as goal

pub returns : goal.returns
returns c = rise
