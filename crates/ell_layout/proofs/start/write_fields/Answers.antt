-- One more field is written.
use Rattle.std.proofs.Common.{ℕ, ◌<◌, length, get_or, ap, ◌∙◌, slice_set, arith}
use Rattle.ell_layout.specs.declared.field.Field.{Field}
use Rattle.ell_layout.specs.declared.field.Field.TheVariants.{Key}
use Rattle.ell_layout.specs.Layout.{address}
use Rattle.ell_layout.specs.Words.{words_of}
use Rattle.ell_layout.proofs.lemmas.Listed.{address_in_table, words_after_write}
use Rattle.ell_layout.proofs.lemmas.Writes.{table_filled_next}
use Rattle.ell_layout.proofs.start.write_fields.Goals as goal

pub loop-field-preserved : goal.loop-field-preserved
loop-field-preserved c =
    let entry : Field × ℕ = get_or {A = Field × ℕ} c.args.fields.now c.loop-field.field-index (Key, 0) in
    let at = (address_in_table c.args.card c.args.card entry.0 (omega arith)).1 in
    let room = c.requires.inside in
    let same = c.loop-field.auto.words in
    let fits : address c.args.card entry.0 < length c.loop-field.words = omega arith in
    table_filled_next (words_of c.args.words.now) (words_of c.loop-field.words) (words_of (slice_set c.loop-field.words c.address.result entry.1)) c.args.card
    c.args.fields.now c.loop-field.field-index (Key, 0) c.loop-field.invariant c.loop-field-test.true
    (ap (λ i. words_of (slice_set c.loop-field.words i entry.1)) c.address.ensures
    ∙ words_after_write c.loop-field.words c.args.card entry.0 entry.1 fits)
