use Rattle.ell_trie.proofs.lemmas.links.Laws.{links_keep, inserts_keep}
use Rattle.ell_trie.proofs.laws.links_keep.Goals as goal

pub returns-clause-links : goal.returns-clause-links
returns-clause-links c = links_keep

pub returns-clause-inserts : goal.returns-clause-inserts
returns-clause-inserts c = inserts_keep
