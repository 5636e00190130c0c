use Rattle.ell_parts.specs.Made.{AreParts}
use Rattle.ell_parts.proofs.part.parts_in_turn.Given as goal

-- the parts of the workers so far
abbrev pub invariant-loop-worker : goal.invariant-loop-worker
invariant-loop-worker g l = AreParts l.rounds l.ops l.owners l.worker l.parts.items
