-- What the stages tell, what each event leaves of them, and what a filling leaves in its card.
use Rattle.ell_core.proofs.lemmas.following.waiting.Cards.{stages_tell_waiting, claimed_cards_say}
use Rattle.ell_core.proofs.lemmas.following.waiting.Events.{events_leave_waiting}
use Rattle.ell_core.proofs.laws.steps.cards_wait.Goals as goal

pub returns : goal.returns
returns c = record { stages = stages_tell_waiting; events = events_leave_waiting; claimed = claimed_cards_say }
