use Rattle.ell_trie.proofs.lemmas.Swaps.{swaps_keep}
use Rattle.ell_trie.proofs.laws.swaps_keep.Goals as goal

pub returns : goal.returns
returns c = swaps_keep
