-- In version 2 the line of a value that was found is put in two pieces.
use Rattle.ell_text.proofs.lemmas.Putting.{HasPut-failed, HasPut-then, Faults-more}
use Rattle.ell_text.proofs.answer.ReplyListed.put_line.Goals as goal

pub returns-in_err-put-in-Two-Found : goal.returns-in_err-put-in-Two-Found
returns-in_err-put-in-Two-Found g c =
    rw (c.in-Two-Found.is-0, c.in-Two-Found.is-1)
    (HasPut-failed c.from_residual.result _ c.from_residual.ensures.1 (Faults-more _ c.in_err-put-in-Two-Found.ensures.fault))

pub returns-in_ok-put-in-Two-Found : goal.returns-in_ok-put-in-Two-Found
returns-in_ok-put-in-Two-Found g c =
    rw (c.in-Two-Found.is-0, c.in-Two-Found.is-1) (HasPut-then c.put_line.result c.in_ok-put-in-Two-Found.ensures.ok c.put_line.ensures)
