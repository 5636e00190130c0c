use Rattle.std.proofs.Common.{◌≡◌, ◌++◌, drop}
use Rattle.ell_ops.specs.Contents.{contents_of}
use Rattle.ell_ops.specs.Meaning.{replies, final}
use Rattle.ell_ops.proofs.one_thread.apply_from.Given as goal

-- the replies so far and those to the rest are those to all, and the rest leaves the same
abbrev pub invariant-loop-op : goal.invariant-loop-op
invariant-loop-op g l = record {
  told : l.replies.items ++ replies (contents_of l.map.entries) (drop l.op-index l.ops) ≡ replies (contents_of l.start) l.ops;
  left : final (contents_of l.map.entries) (drop l.op-index l.ops) ≡ final (contents_of l.start) l.ops;
}
