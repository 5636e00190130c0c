use Rattle.ell_ops.specs.Contents.{contents_of}
use Rattle.ell_run.proofs.lemmas.SideBySide.{AreCounted}
use Rattle.ell_run.proofs.reservation.counts_in.Given as goal

-- the operations so far are counted, and their keys
abbrev pub invariant-loop-op : goal.invariant-loop-op
invariant-loop-op l = AreCounted (contents_of l.start) l.part l.op-index l.last l.there l.changes l.keys
