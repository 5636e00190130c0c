use Rattle.ell_text.proofs.lemmas.Putting.{HasPut-failed, HasPut-then, Faults-more}
use Rattle.ell_text.proofs.listing.put_listing.Goals as goal

pub returns-in_err-put_lines : goal.returns-in_err-put_lines
returns-in_err-put_lines g c = HasPut-failed c.from_residual.result _ c.from_residual.ensures.1 (Faults-more _ c.in_err-put_lines.ensures.fault)

pub returns : goal.returns
returns g c = HasPut-then c.put_keys.result c.in_ok-put_lines.ensures.ok c.put_keys.ensures
