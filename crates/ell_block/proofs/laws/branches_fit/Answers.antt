use Rattle.ell_block.proofs.lemmas.Nesting.{branches_fit}
use Rattle.ell_block.proofs.laws.branches_fit.Goals as goal

pub returns : goal.returns
returns c = branches_fit
