-- Each state breaks its clause.
use Rattle.ell_core.proofs.lemmas.following.small_states.Flags.{nodes_broken, numbers_broken, updates_broken}
use Rattle.ell_core.proofs.laws.unsound.no_name_is_wrong.Goals as goal

pub returns : goal.returns
returns c = record {
  nodes = nodes_broken;
  numbers = numbers_broken;
  updates = updates_broken;
}
