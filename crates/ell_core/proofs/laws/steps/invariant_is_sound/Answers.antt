-- Part by part.
use Rattle.ell_core.proofs.lemmas.following.Sound.{sound}
use Rattle.ell_core.proofs.laws.steps.invariant_is_sound.Goals as goal

pub returns : goal.returns
returns c = sound
