use Rattle.std.proofs.Common.{◌≡◌, take}
use Rattle.ell_ops.specs.Contents.{contents_of}
use Rattle.ell_ops.proofs.one_thread.ordered_map.Given as goal

-- the map has the pairs so far
abbrev pub invariant-loop-key : goal.invariant-loop-key
invariant-loop-key g l = contents_of l.map.entries ≡ contents_of (take l.key-index l.pairs)
