use Rattle.std.proofs.Common.{◌+◌, ◌*◌}
use Rattle.ell_text.proofs.halving.+halving.Given as goal

abbrev pub decreases-read_operations : goal.decreases-read_operations
decreases-read_operations g l = 2 * l.halvings

abbrev pub decreases-first : goal.decreases-first
decreases-first g l = 2 * l.fewer + 1

abbrev pub decreases-second : goal.decreases-second
decreases-second g l = 2 * l.fewer + 1
