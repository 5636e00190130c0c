use Rattle.std.proofs.Common.{◌≡◌}
use Rattle.ell_test_command.proofs.tests.machine.scripts.played.Given as goal

-- as many cards as the world was opened with
abbrev pub invariant-loop-script : goal.invariant-loop-script
invariant-loop-script g l = l.world.last_card ≡ l.cards
