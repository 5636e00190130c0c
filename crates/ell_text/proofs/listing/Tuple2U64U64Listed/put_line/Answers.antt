-- In version 2 a key, a space and its value, one after another.
use Rattle.ell_text.proofs.lemmas.Putting.{HasPut-failed, HasPut-then, Puts-then, Faults-then, Faults-more}
use Rattle.ell_text.proofs.listing.Tuple2U64U64Listed.put_line.Goals as goal

pub returns-in_err-put_number-in-Two : goal.returns-in_err-put_number-in-Two
returns-in_err-put_number-in-Two g c =
    rw c.in-Two.is (HasPut-failed c.from_residual.result _ c.from_residual.ensures.1 (Faults-more _ (Faults-more _ c.in_err-put_number-in-Two.ensures.fault)))

pub returns-in_err-put-in-Two : goal.returns-in_err-put-in-Two
returns-in_err-put-in-Two g c =
    rw c.in-Two.is (HasPut-failed c.from_residual-in_err-put-in-Two.result _ c.from_residual-in_err-put-in-Two.ensures.1
    (Faults-more _ (Faults-then c.in_ok-put_number-in-Two.ensures.ok c.in_err-put-in-Two.ensures.fault)))

pub returns-in_ok-put-in-Two : goal.returns-in_ok-put-in-Two
returns-in_ok-put-in-Two g c =
    rw c.in-Two.is (HasPut-then c.put_line-in-Two.result (Puts-then c.in_ok-put_number-in-Two.ensures.ok c.in_ok-put-in-Two.ensures.ok) c.put_line-in-Two.ensures)
