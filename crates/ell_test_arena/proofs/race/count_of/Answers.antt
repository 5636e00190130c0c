use Rattle.std.proofs.Common.{◌+◌, refl}
use Rattle.ell_test_arena.proofs.lemmas.Pairs.{second_allowed}
use Rattle.ell_test_arena.proofs.race.count_of.Goals as goal

pub load-requires-clause-rule : goal.load-requires-clause-rule
load-requires-clause-rule c =
    second_allowed c.args.words.now.shared.key c.args.seat.now.id c.args.seat.now.me c.args.pair (c.args.pair + 1) 0 0 (λ n. n) c.requires.3 refl c.requires.1
