-- One more field is written.
use Rattle.std.proofs.Common.{rules}
use Rattle.ell_layout.specs.declared.field.Field.TheVariants.{Key}
use Rattle.ell_world.specs.Inside.{words_in}
use Rattle.ell_layout.proofs.lemmas.Writes.{table_filled_next}
use Rattle.ell_world.proofs.memory.Memory.fill.Goals as goal

pub loop-field-preserved : goal.loop-field-preserved
loop-field-preserved g c = record {
  words = table_filled_next (words_in c.args.self.now) (words_in c.loop-field.self) (words_in c.write.new.self) c.args.card c.args.filling.now
      c.loop-field.field-index (Key, 0) c.loop-field.invariant.words c.loop-field-test.true c.write.ensures.words;
  same = search rules;
}
