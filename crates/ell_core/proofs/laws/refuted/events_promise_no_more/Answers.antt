-- By the small run.
use Rattle.ell_core.proofs.lemmas.runs.Refuted.{ledgers_differ, next_key_wrong, after_wrong, busy_finds_flag, no_teaching}
use Rattle.ell_core.proofs.laws.refuted.events_promise_no_more.Goals as goal

pub returns : goal.returns
returns c = record {
  ledgers = ledgers_differ;
  keys = next_key_wrong;
  answers = after_wrong;
  busy_owner = busy_finds_flag;
  split = no_teaching;
}
