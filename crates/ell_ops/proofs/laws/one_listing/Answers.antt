use Rattle.ell_ops.proofs.lemmas.Sets.{one_list}
use Rattle.ell_ops.proofs.lemmas.Pairs.{one_list_of_pairs}
use Rattle.ell_ops.proofs.laws.one_listing.Goals as goal

pub returns-clause-keys : goal.returns-clause-keys
returns-clause-keys c = one_list

pub returns-clause-pairs : goal.returns-clause-pairs
returns-clause-pairs c = one_list_of_pairs
