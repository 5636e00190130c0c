use Rattle.ell_test_arena.proofs.lemmas.Pairs.{split_allowed}
use Rattle.ell_test_arena.proofs.race.part.Goals as goal

pub split-requires-clause-rule : goal.split-requires-clause-rule
split-requires-clause-rule c = split_allowed c.args.words.now.shared.key c.args.seat.now.id c.args.seat.now.me.0
