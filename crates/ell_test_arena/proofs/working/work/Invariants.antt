use Rattle.std.proofs.Common.{[]}
use Rattle.ell_test_arena.specs.Pairs.{IsOurs}
use Rattle.ell_test_arena.proofs.working.work.Given as goal

abbrev pub invariant-loop : goal.invariant-loop
invariant-loop l = IsOurs l.words l.seat []
