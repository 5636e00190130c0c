use Rattle.std.proofs.Common.{◌≡◌}
use Rattle.ell_test_command.proofs.tests.machine.scripts.play.Given as goal

-- as many cards as at the start
abbrev pub invariant-loop-at : goal.invariant-loop-at
invariant-loop-at g l = l.world.last_card ≡ l.fn.world.last_card
