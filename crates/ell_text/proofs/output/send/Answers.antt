use Rattle.std.proofs.Common.{arith}
use Rattle.ell_text.proofs.lemmas.Sending.{Sends-trans, Sends-write, length-from_Sends}
use Rattle.ell_text.proofs.output.send.Goals as goal

pub loop-rest-preserved : goal.loop-rest-preserved
loop-rest-preserved g c =
    let write = Sends-write _ c.loop-rest.count _ c.write.result c.unwrap_or-taken.ensures c.write.ensures.bound c.write.ensures.bytes in
    record { sends = Sends-trans c.loop-rest.invariant.sends write; countable = omega (arith, length-from_Sends write) }
