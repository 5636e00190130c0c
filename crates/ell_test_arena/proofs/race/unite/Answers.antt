use Rattle.ell_test_arena.proofs.lemmas.Pairs.{join_allowed}
use Rattle.ell_test_arena.proofs.race.unite.Goals as goal

pub join-requires-clause-rule : goal.join-requires-clause-rule
join-requires-clause-rule c = join_allowed c.args.words.now.shared.key c.args.seat.now.id c.args.seat.now.me.0 c.args.other.me.0 c.args.other.id
