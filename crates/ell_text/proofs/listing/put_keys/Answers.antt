use Rattle.ell_text.proofs.lemmas.Putting.{HasPut-failed, HasPut-then, Faults-then, Faults-more}
use Rattle.ell_text.proofs.listing.put_keys.Goals as goal

pub returns-in_err-put : goal.returns-in_err-put
returns-in_err-put g c = HasPut-failed c.from_residual.result _ c.from_residual.ensures.1 (Faults-more _ c.in_err-put.ensures.fault)

pub returns-in_err-put_line : goal.returns-in_err-put_line
returns-in_err-put_line g c =
    HasPut-failed c.from_residual-in_err-put_line.result _ c.from_residual-in_err-put_line.ensures.1
    (Faults-then c.in_ok-put.ensures.ok (Faults-more _ c.in_err-put_line.ensures.fault))

pub returns : goal.returns
returns g c = HasPut-then c.put_lines.result c.in_ok-put.ensures.ok (HasPut-then c.put_lines.result c.in_ok-put_line.ensures.ok c.put_lines.ensures)
