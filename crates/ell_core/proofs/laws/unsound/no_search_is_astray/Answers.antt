-- Each state breaks its clause.
use Rattle.ell_core.proofs.lemmas.following.small_states.Ledgers.{found_broken, missed_broken, astray_broken}
use Rattle.ell_core.proofs.laws.unsound.no_search_is_astray.Goals as goal

pub returns : goal.returns
returns c = record {
  found = found_broken;
  missed = missed_broken;
  joins = astray_broken;
}
