use Rattle.ell_text.proofs.lemmas.Putting.{HasPut-failed, Puts-line, Faults-line}
use Rattle.ell_text.proofs.listing.put_lines.Goals as goal

pub returns-in_err-put_line : goal.returns-in_err-put_line
returns-in_err-put_line g c =
    let fault = rw c.item-item.is at c.in_err-put_line.ensures.fault in
    HasPut-failed c.from_residual.result _ c.from_residual.ensures.1
    (Faults-line (g.T.Listed.line c.args.version) _ _ _ c.loop-item-test.true c.loop-item.invariant fault)

pub loop-item-preserved : goal.loop-item-preserved
loop-item-preserved g c =
    let line = rw c.item-item.is at c.in_ok-put_line.ensures.ok in Puts-line (g.T.Listed.line c.args.version) _ _ _ c.loop-item-test.true c.loop-item.invariant line
