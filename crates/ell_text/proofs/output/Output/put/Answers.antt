use Rattle.ell_text.proofs.lemmas.Putting.{HasPut-failed, Sends-kept}
use Rattle.ell_text.proofs.lemmas.Sending.{Sends-trans, Sends-more, Stops-then, Stops-more}
use Rattle.ell_text.proofs.output.Output.put.Goals as goal

pub returns-in_err-flush : goal.returns-in_err-flush
returns-in_err-flush g c =
    let kept = Sends-kept _ _ _ c.loop-self.invariant c.keep.ensures.waiting c.split_at.ensures.front c.split_at.ensures.back c.keep.ensures.written in
    HasPut-failed c.from_residual.result _ c.from_residual.ensures.1 (record { stops = Stops-then kept (Stops-more _ c.in_err-flush.ensures.put.fault.stops) })

pub loop-self-preserved : goal.loop-self-preserved
loop-self-preserved g c =
    let kept = Sends-kept _ _ _ c.loop-self.invariant c.keep.ensures.waiting c.split_at.ensures.front c.split_at.ensures.back c.keep.ensures.written in
    Sends-trans kept (Sends-more _ c.in_ok-flush.ensures.put.ok.sends)
