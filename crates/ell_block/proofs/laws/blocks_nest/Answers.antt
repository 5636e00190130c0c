use Rattle.ell_block.proofs.lemmas.Nesting.{bits_fall, blocks_nest, branches_nest}
use Rattle.ell_block.proofs.laws.blocks_nest.Goals as goal

pub returns-clause-fall : goal.returns-clause-fall
returns-clause-fall c = bits_fall

pub returns-clause-blocks : goal.returns-clause-blocks
returns-clause-blocks c = blocks_nest

pub returns-clause-branches : goal.returns-clause-branches
returns-clause-branches c = branches_nest
