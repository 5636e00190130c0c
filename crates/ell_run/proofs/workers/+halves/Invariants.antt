use Rattle.std.proofs.Common.{◌+◌, ◌*◌, length}
use Rattle.ell_run.proofs.workers.+halves.Given as goal

abbrev pub decreases-do_workers : goal.decreases-do_workers
decreases-do_workers g l = 2 * length l.workers.now

abbrev pub decreases-front : goal.decreases-front
decreases-front g l = 2 * length l.low.now + 1

abbrev pub decreases-back : goal.decreases-back
decreases-back g l = 2 * length l.high.now + 1
