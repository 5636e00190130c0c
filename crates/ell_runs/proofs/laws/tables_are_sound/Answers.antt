-- The machine is sound, and its words are the table's where that counts.
use Rattle.ell_runs.proofs.lemmas.own_words.OwnWords.{machine_is_sound, machine_has_own_words}
use Rattle.ell_runs.proofs.lemmas.runs.OfReached.{own_words_are_sound}
use Rattle.ell_runs.proofs.laws.tables_are_sound.Goals as goal

pub returns : goal.returns
returns c = record { own = own_words_are_sound; machine = machine_is_sound; words = machine_has_own_words }
