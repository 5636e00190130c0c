-- The invariant holds at the opening, and every event keeps it.
use Rattle.ell_core.proofs.lemmas.runs.Lawful.{passed_has, passed_sound}
use Rattle.ell_core.proofs.laws.schedules.every_state_is_sound.Goals as goal

pub returns : goal.returns
returns c = record { invariant = passed_has; sound = passed_sound }
