-- The fields before the index are written, and the list has its length.
use Rattle.std.proofs.Common.{◌≡◌, take}
use Rattle.ell_layout.specs.Words.{words_of}
use Rattle.ell_layout.specs.Cards.{table_filled}
use Rattle.ell_layout.proofs.start.write_fields.Given as goal

abbrev pub invariant-loop-field : goal.invariant-loop-field
invariant-loop-field l = words_of l.words ≡ table_filled (words_of l.fn.words) l.card (take l.field-index l.fields)
