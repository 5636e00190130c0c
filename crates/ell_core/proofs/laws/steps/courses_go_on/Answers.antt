-- A child changes in the tree alone, and what is on course and in the tree is on the walk.
use Rattle.ell_core.proofs.lemmas.following.Looks.{courses_go_on}
use Rattle.ell_core.proofs.laws.steps.courses_go_on.Goals as goal

pub returns : goal.returns
returns c = courses_go_on
