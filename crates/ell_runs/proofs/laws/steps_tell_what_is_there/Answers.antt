-- What passes know of words is past; and what a pass won is counted once.
use Rattle.ell_runs.proofs.lemmas.runs.Tellings.{no_greater_next, no_greater_update, no_untried_claim_lost}
use Rattle.ell_runs.proofs.lemmas.runs.Outcomes.{no_other_outcome}
use Rattle.ell_runs.proofs.laws.steps_tell_what_is_there.Goals as goal

pub returns : goal.returns
returns c =
    record {
      next = no_greater_next;
      update = no_greater_update;
      outcome = no_other_outcome;
      untried = no_untried_claim_lost;
    }
