use Rattle.std.proofs.Common.{◌≡◌}
use Rattle.ell_test_command.proofs.tests.machine.scripts.does.Given as goal

-- as many cards as at the start
abbrev pub invariant-loop-act : goal.invariant-loop-act
invariant-loop-act l = l.world.last_card ≡ l.fn.world.last_card
