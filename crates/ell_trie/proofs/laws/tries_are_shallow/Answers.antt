use Rattle.ell_trie.proofs.lemmas.Paths.{paths_are_short, tries_are_shallow}
use Rattle.ell_trie.proofs.laws.tries_are_shallow.Goals as goal

pub returns-clause-paths : goal.returns-clause-paths
returns-clause-paths c = paths_are_short

pub returns-clause-shallow : goal.returns-clause-shallow
returns-clause-shallow c = tries_are_shallow
