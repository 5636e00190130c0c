use Rattle.ell_trie.proofs.lemmas.Truths.{links_stay_true, swaps_stay_true, cuts_stay_true}
use Rattle.ell_trie.proofs.laws.looks_stay_true.Goals as goal

pub returns-clause-links : goal.returns-clause-links
returns-clause-links c = links_stay_true

pub returns-clause-swaps : goal.returns-clause-swaps
returns-clause-swaps c = swaps_stay_true

pub returns-clause-cuts : goal.returns-clause-cuts
returns-clause-cuts c = cuts_stay_true
