-- By the small run.
use Rattle.ell_core.proofs.lemmas.runs.Refuted.{no_rise, not_fixed, not_frozen, some_learnt, child_not_first}
use Rattle.ell_core.proofs.laws.refuted.runs_promise_no_more.Goals as goal

pub returns : goal.returns
returns c = record {
  words = no_rise;
  next_card = not_fixed;
  flagged = not_frozen;
  knowledge = some_learnt;
  order = child_not_first;
}
