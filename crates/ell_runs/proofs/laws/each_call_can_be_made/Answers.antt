use Rattle.ell_runs.proofs.lemmas.runs.SmallRun.{small_run_is_made}
use Rattle.ell_runs.proofs.laws.each_call_can_be_made.Goals as goal

pub returns : goal.returns
returns c = small_run_is_made
