use Rattle.std.proofs.Common.{◌≡◌, ◌+◌, take}
use Rattle.ell_arena.proofs.block.Block+u64+A.of.Given as goal

abbrev pub invariant-loop-i : goal.invariant-loop-i
invariant-loop-i g l = (l.block.heap ≡ l.alloc) × (l.block.items ≡ take l.i l.words) × (l.block.left + l.i ≡ l.count)
