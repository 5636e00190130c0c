-- Later words have what is frozen and what is claimed.
use Rattle.ell_core.proofs.lemmas.stages.Told.{fixed_words_stay, frozen_parents_stay}
use Rattle.ell_core.proofs.laws.definitions.told_words_stay.Goals as goal

pub returns : goal.returns
returns c = record { fixed = fixed_words_stay; frozen = frozen_parents_stay }
