use Rattle.ell_test_arena.proofs.lemmas.Pairs.{first_allowed}
use Rattle.ell_test_arena.proofs.race.name_of.Goals as goal

pub load-requires-clause-rule : goal.load-requires-clause-rule
load-requires-clause-rule c = first_allowed c.args.words.now.shared.key c.args.seat.now.id c.args.seat.now.me c.args.pair 0 0 (λ n. n) c.requires.3 c.requires.1
