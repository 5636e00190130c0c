use Rattle.ell_trie.proofs.lemmas.Cuts.{cuts_keep}
use Rattle.ell_trie.proofs.laws.cuts_keep.Goals as goal

pub returns : goal.returns
returns c = cuts_keep
