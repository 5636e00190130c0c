use Rattle.std.proofs.Common.{◌≡◌, filter, length}
use Rattle.std.specs.Prelude.{nat_lt}
use Rattle.std.specs.List.{range_with_len}
use Rattle.ell_parts.specs.PartedOps.{part}
use Rattle.ell_run.proofs.workers.busy_workers.Given as goal

-- the workers so far are those with something to do among the first
abbrev pub invariant-loop-worker : goal.invariant-loop-worker
invariant-loop-worker g l = l.workers.items ≡ filter (λ worker. nat_lt 0 (length (part l.parts worker))) (range_with_len 0 l.worker)
