use Rattle.ell_trie.proofs.lemmas.SmallTrie.{small_trie, small_order, small_insert_above_leaf, small_insert, greater_is_none}
use Rattle.ell_test_command.proofs.tests.tries.definitions_agree_on_tries.Goals as goal

pub returns-clause-trie : goal.returns-clause-trie
returns-clause-trie c = small_trie

pub returns-clause-order : goal.returns-clause-order
returns-clause-order c = small_order

pub returns-clause-leaf : goal.returns-clause-leaf
returns-clause-leaf c = small_insert_above_leaf

pub returns-clause-inner : goal.returns-clause-inner
returns-clause-inner c = small_insert

pub returns-clause-greater : goal.returns-clause-greater
returns-clause-greater c = greater_is_none
