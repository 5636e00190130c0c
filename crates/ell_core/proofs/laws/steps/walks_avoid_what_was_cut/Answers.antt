-- What is new on a walk after an event is in the tree, and what was cut out is not.
use Rattle.ell_core.proofs.lemmas.following.Walks.{roots_avoid, events_keep_avoiding}
use Rattle.ell_core.proofs.laws.steps.walks_avoid_what_was_cut.Goals as goal

pub returns : goal.returns
returns c = record { roots = roots_avoid; events = events_keep_avoiding }
