-- The fields before the index are written, and the list has its length.
use Rattle.std.proofs.Common.{◌≡◌, take}
use Rattle.ell_layout.specs.Cards.{table_filled}
use Rattle.ell_world.specs.Inside.{words_in, SameSize}
use Rattle.ell_world.proofs.memory.Memory.fill.Given as goal

abbrev pub invariant-loop-field : goal.invariant-loop-field
invariant-loop-field g l = record {
  words : words_in l.self ≡ table_filled (words_in l.fn.self) l.card (take l.field-index l.filling);
  same : SameSize l.fn.self l.self;
}
