use Rattle.std.proofs.Common.{◌+◌, ◌^◌, ◌<◌, length}
use Rattle.ell_text.specs.Sending.{Sends}
use Rattle.ell_text.proofs.output.send.Given as goal

abbrev pub invariant-loop-rest : goal.invariant-loop-rest
invariant-loop-rest g l = record {
  sends : Sends (g.W.Write.contents l.fn.out) (g.W.Write.contents l.out) l.bytes l.rest l.written l.count;
  countable : l.count + length l.rest < 2 ^ 64;
}

abbrev pub decreases-loop-rest : goal.decreases-loop-rest
decreases-loop-rest g l = length l.rest
