use Rattle.ell_trie.proofs.lemmas.Readers.{looks_find_what_was}
use Rattle.ell_trie.proofs.laws.looks_find_what_was.Goals as goal

pub returns : goal.returns
returns c = looks_find_what_was
