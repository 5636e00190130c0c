use Rattle.std.proofs.Common.{length}
use Rattle.ell_run.proofs.workers.+keys_for.Given as goal

abbrev pub decreases-keys_for : goal.decreases-keys_for
decreases-keys_for g l = length l.workers.now
