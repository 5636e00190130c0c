-- By a run of no events, and by one event more.
use Rattle.ell_core.proofs.lemmas.runs.Passed.{follows_itself, followed_on}
use Rattle.ell_core.proofs.laws.premises.runs_can_be_followed.Goals as goal

pub returns : goal.returns
returns c = record { itself = follows_itself; events = followed_on }
