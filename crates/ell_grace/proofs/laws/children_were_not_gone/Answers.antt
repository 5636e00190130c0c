-- Event by event; a marked node keeps its children, and any other is in the tree.
use Rattle.ell_grace.proofs.lemmas.since.Coming.{states_come_from_themselves, events_lead_on, children_were_not_gone}
use Rattle.ell_grace.proofs.laws.children_were_not_gone.Goals as goal

pub returns : goal.returns
returns c = record { begins = states_come_from_themselves; events = events_lead_on; children = children_were_not_gone }
