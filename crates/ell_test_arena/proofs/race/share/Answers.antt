use Rattle.std.proofs.Common.{[]}
use Rattle.ell_test_arena.proofs.lemmas.Pairs.{share_allowed}
use Rattle.ell_test_arena.proofs.race.share.Goals as goal

pub store-requires-clause-rule : goal.store-requires-clause-rule
store-requires-clause-rule c = share_allowed c.args.words.now.shared.key c.args.seat.now.id c.args.seat.now.me c.args.pair c.args.pair 0 [] c.requires.0.2 c.requires.1 c.requires.3
