use Rattle.std.proofs.Common.{◌≡◌}
use Rattle.std.specs.List.{flat_map}
use Rattle.ell_run.proofs.lemmas.Marks.{late_so_far}
use Rattle.ell_run.proofs.late.late_ops.Given as goal

-- the operations so far that no item answers
abbrev pub invariant-loop-at : goal.invariant-loop-at
invariant-loop-at g l = l.late.items ≡ late_so_far l.ops (flat_map (λ piece. piece.items) l.pieces) l.at
