use Rattle.ell_text.proofs.lemmas.Putting.{HasPut-failed, HasPut-then, Faults-more}
use Rattle.ell_text.proofs.listing.U64Listed.put_line.Goals as goal

pub returns-in_err-put_number : goal.returns-in_err-put_number
returns-in_err-put_number g c = HasPut-failed c.from_residual.result _ c.from_residual.ensures.1 (Faults-more _ c.in_err-put_number.ensures.fault)

pub returns : goal.returns
returns g c = HasPut-then c.put.result c.in_ok-put_number.ensures.ok c.put.ensures
