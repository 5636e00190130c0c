use Rattle.std.proofs.Common.{◌+◌, ◌%◌, ◌^◌, ap, refl, ◌∙◌}
use lib.Dec.{eqb}
use prog.Atomic.{either}
use Rattle.ell_test_arena.proofs.lemmas.Pairs.{second_allowed}
use Rattle.ell_test_arena.proofs.race.add.Goals as goal

pub load-before-requires-clause-rule : goal.load-before-requires-clause-rule
load-before-requires-clause-rule c =
    second_allowed c.args.words.now.shared.key c.args.seat.now.id c.args.seat.now.me c.args.pair (c.args.pair + 1) 0 0 (λ n. n) c.requires.3 refl c.requires.1

pub compare_exchange-requires-clause-rule : goal.compare_exchange-requires-clause-rule
compare_exchange-requires-clause-rule c = let n = c.load-before.result in let new = (n + 1) % 2 ^ 64 in
    second_allowed c.args.words.now.shared.key c.load-before.new.seat.id c.load-before.new.seat.me c.args.pair (c.args.pair + 1) n new (λ m. either (eqb m n) new m)
    (ap (λ me. me.0.pair) c.load-before.ensures.told ∙ c.requires.3) refl c.requires.1
