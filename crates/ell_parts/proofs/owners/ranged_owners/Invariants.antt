use Rattle.std.proofs.Common.{◌≡◌, take}
use Rattle.ell_parts.specs.PartedOps.{ranged}
use Rattle.ell_parts.proofs.owners.ranged_owners.Given as goal

-- the owners so far are those of the operations so far
abbrev pub invariant-loop-op : goal.invariant-loop-op
invariant-loop-op g l = l.owners.items ≡ ranged l.keys (take l.op-index l.ops) l.workers
