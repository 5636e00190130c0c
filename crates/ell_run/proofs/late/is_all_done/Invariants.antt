use Rattle.std.proofs.Common.{ℕ, ◌<◌, ◌≤◌, length, map}
use Rattle.ell_parts.specs.PartedOps.{part}
use Rattle.ell_run.specs.Pieces.{count_of}
use Rattle.ell_run.proofs.late.is_all_done.Given as goal

-- the pieces so far are as long as their parts
abbrev pub invariant-loop-worker : goal.invariant-loop-worker
invariant-loop-worker g l =
    (worker : ℕ) → worker < l.worker → length (part l.parts worker) ≤ count_of (map (λ piece. piece.items) l.pieces) worker
