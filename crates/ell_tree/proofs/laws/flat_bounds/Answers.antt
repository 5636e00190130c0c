use Rattle.std.proofs.Common.{arith}
use Rattle.ell_tree.specs.Ends.{find_steps, try_steps}
use Rattle.ell_tree.specs.Helps.{help_steps}
use Rattle.ell_tree.specs.Looks.{look_steps, stretch_steps}
use Rattle.ell_tree.proofs.lemmas.Flat.{flat_bound}
use Rattle.ell_tree.proofs.laws.flat_bounds.Goals as goal

pub returns-clause-find : goal.returns-clause-find
returns-clause-find c = flat_bound find_steps (λ d e most. omega (arith, most))

pub returns-clause-look : goal.returns-clause-look
returns-clause-look c = flat_bound look_steps (λ d e most. omega (arith, most))

pub returns-clause-change : goal.returns-clause-change
returns-clause-change c = flat_bound try_steps (λ d e most. omega (arith, most))

pub returns-clause-help : goal.returns-clause-help
returns-clause-help c = flat_bound help_steps (λ d e most. omega (arith, most))

pub returns-clause-stretch : goal.returns-clause-stretch
returns-clause-stretch c = flat_bound stretch_steps (λ d e most. omega (arith, most))
