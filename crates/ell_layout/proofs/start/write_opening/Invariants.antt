-- The cards of the opening tree are written below this one.
use Rattle.std.proofs.Common.{◌≡◌}
use Rattle.ell_layout.specs.Words.{words_of}
use Rattle.ell_layout.proofs.lemmas.Growing.{growing}
use Rattle.ell_layout.proofs.start.write_opening.Given as goal

abbrev pub invariant-loop-card : goal.invariant-loop-card
invariant-loop-card l = words_of l.words ≡ growing l.start l.card
