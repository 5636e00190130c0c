-- By the small run.
use Rattle.ell_core.proofs.lemmas.runs.Refuted.{not_of_last, not_of_first}
use Rattle.ell_core.proofs.laws.refuted.looks_promise_no_more.Goals as goal

pub returns : goal.returns
returns c = record { last = not_of_last; first = not_of_first }
