-- The laws are lemmas on lists of words, and on what a filling leaves.
use Rattle.ell_layout.proofs.lemmas.Listed.{same_after_same_write, words_are_listed, words_after_fields}
use Rattle.ell_layout.proofs.lemmas.Stored.{filled_stored}
use Rattle.ell_layout.proofs.lemmas.Claims.{tables_claim}
use Rattle.ell_layout.proofs.laws.same_words.Goals as goal

pub returns : goal.returns
returns c = record { writes = same_after_same_write; listed = words_are_listed; filled = words_after_fields; cards = filled_stored; claims = tables_claim }
