-- Each state breaks its clause.
use Rattle.ell_core.proofs.lemmas.following.small_states.Ledgers.{owner_broken, busy_broken, knowing_broken}
use Rattle.ell_core.proofs.laws.unsound.no_stranger_is_somebody.Goals as goal

pub returns : goal.returns
returns c = record {
  owns = owner_broken;
  busy = busy_broken;
  knows = knowing_broken;
}
