-- A flag would be in the hand of an owner of its key.
use Rattle.ell_core.proofs.lemmas.following.Reliance.{owner_finds_clean}
use Rattle.ell_core.proofs.laws.steps.owner_finds_clean.Goals as goal

pub returns : goal.returns
returns c = owner_finds_clean
