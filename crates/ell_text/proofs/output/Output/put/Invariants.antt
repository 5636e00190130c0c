use Rattle.std.proofs.Common.{◌+◌, ◌++◌, length}
use Rattle.ell_text.specs.Output.{waiting_bytes}
use Rattle.ell_text.specs.Sending.{Sends}
use Rattle.ell_text.proofs.output.Output.put.Given as goal

-- what waits and the rest of the text are what is left of what waited and the whole text
abbrev pub invariant-loop-self : goal.invariant-loop-self
invariant-loop-self g l =
    Sends (g.W.Write.contents l.fn.out) (g.W.Write.contents l.out) (waiting_bytes l.fn.self ++ l.text) (waiting_bytes l.self ++ l.rest) l.fn.self.written l.self.written

abbrev pub decreases-loop-self : goal.decreases-loop-self
decreases-loop-self g l = length l.rest + l.self.filled
