use Rattle.ell_block.proofs.lemmas.Nesting.{two_keys_part}
use Rattle.ell_block.proofs.lemmas.Middles.{one_block_each, bits_count_zeros, one_branch_each, most_zeros}
use Rattle.ell_block.proofs.laws.branches_are_unique.Goals as goal

pub returns-clause-block : goal.returns-clause-block
returns-clause-block c = one_block_each

pub returns-clause-zeros : goal.returns-clause-zeros
returns-clause-zeros c = bits_count_zeros

pub returns-clause-some : goal.returns-clause-some
returns-clause-some c = two_keys_part

pub returns-clause-one : goal.returns-clause-one
returns-clause-one c = one_branch_each

pub returns-clause-most : goal.returns-clause-most
returns-clause-most c = most_zeros
