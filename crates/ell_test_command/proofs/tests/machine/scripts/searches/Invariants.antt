use Rattle.std.proofs.Common.{◌≡◌}
use Rattle.ell_test_command.proofs.tests.machine.scripts.searches.Given as goal

-- as many cards as at the start
abbrev pub invariant-loop : goal.invariant-loop
invariant-loop l = l.world.last_card ≡ l.fn.world.last_card
