use Rattle.ell_layout.proofs.lemmas.Branches.{branches_are_halves}
use Rattle.ell_layout.proofs.laws.branches_are_halves.Goals as goal

pub returns : goal.returns
returns c = branches_are_halves
