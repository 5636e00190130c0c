-- Each state breaks its clause.
use Rattle.ell_core.proofs.lemmas.following.small_states.Ledgers.{twice_broken, owned_broken, present_broken, kept_broken, other_value_broken}
use Rattle.ell_core.proofs.laws.unsound.no_ledger_is_wrong.Goals as goal

pub returns : goal.returns
returns c = record {
  one_owner = twice_broken;
  owned = owned_broken;
  present = present_broken;
  only = kept_broken;
  value = other_value_broken;
}
