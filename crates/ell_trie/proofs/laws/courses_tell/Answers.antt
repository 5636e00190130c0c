use Rattle.ell_trie.proofs.lemmas.Courses.{courses_tell, courses_go_on, misses_are_true}
use Rattle.ell_trie.proofs.laws.courses_tell.Goals as goal

pub returns-clause-range : goal.returns-clause-range
returns-clause-range c = courses_tell

pub returns-clause-next : goal.returns-clause-next
returns-clause-next c = courses_go_on

pub returns-clause-misses : goal.returns-clause-misses
returns-clause-misses c = misses_are_true
