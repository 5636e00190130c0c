use Rattle.std.proofs.Common.{◌≤◌}
use Rattle.ell_arena.proofs.words.Words.open_largest.Given as goal

abbrev pub invariant-loop : goal.invariant-loop
invariant-loop g l = (l.least ≤ l.count) × (l.count ≤ l.most)
