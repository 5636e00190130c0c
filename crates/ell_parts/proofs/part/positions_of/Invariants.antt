use Rattle.std.proofs.Common.{◌≡◌, List, length}
use Rattle.ell_ops.specs.declared.op.Op.{Op}
use Rattle.ell_parts.specs.Made.{positions_in}
use Rattle.ell_parts.proofs.lemmas.Making.{dealt_so_far}
use Rattle.ell_parts.proofs.part.positions_of.Given as goal

-- the positions of the worker's operations so far
abbrev pub invariant-loop-at : goal.invariant-loop-at
invariant-loop-at g l = (ops : List Op) → length l.owners ≡ length ops → l.positions.items ≡ positions_in (dealt_so_far ops l.owners l.worker l.at)
