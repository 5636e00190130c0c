use Rattle.std.proofs.Common.{◌≡◌, map, take}
use Rattle.ell_ops.specs.Contents.{contents_of}
use Rattle.ell_run.specs.Reservation.{counts_in}
use Rattle.ell_run.proofs.reservation.counts_in_turn.Given as goal

-- the parts so far are counted
abbrev pub invariant-loop-worker : goal.invariant-loop-worker
invariant-loop-worker g l = l.counts.items ≡ map (counts_in (contents_of l.start)) (take l.worker l.parts.parts)
