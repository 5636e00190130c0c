-- A delete takes its flag back only if another card has set a flag or a mark at its parent since its search read there. Those cards form
-- chains, each card one level below the one that it hinders, and at the end of a chain stands a card that is in a hand.
use Rattle.ell_runs.proofs.lemmas.runs.FewFlags.{few_flags_without_a_change}
use Rattle.ell_runs.proofs.lemmas.runs.Heights.{tables_have_heights}
use Rattle.ell_runs.proofs.laws.changes_go_on.Goals as goal

pub returns : goal.returns
returns c = record { few = few_flags_without_a_change; height = tables_have_heights }
