-- The table of zeros gets the words of the opening tree.
use Rattle.std.proofs.Common.{◌≡◌, ℕ, length, replicate, sym, ap, ◌∙◌}
use Rattle.std.proofs.lemmas.List.{with_items_is}
use Rattle.ell_layout.specs.Words.{words_of}
use Rattle.ell_world.proofs.memory.Memory.opening.Goals as goal

pub write_opening-requires-clause-zeros : goal.write_opening-requires-clause-zeros
write_opening-requires-clause-zeros g c =
    c.as_mut_slice.ensures.value ∙ (c.in_ok-words.ensures.items_if_clones_equal (λ y e. e) ∙ ap (λ n. replicate {A = ℕ} n 0) c.table_size.ensures)

pub returns-clause-words : goal.returns-clause-words
returns-clause-words g c =
    let same : length c.write_opening.new.words ≡ c.in_ok-words.words.len =
    c.write_opening.auto.words ∙ ap length c.as_mut_slice.ensures.value ∙ sym c.in_ok-words.words.ok.0 in
    ap words_of (with_items_is c.in_ok-words.words c.write_opening.new.words same) ∙ c.write_opening.ensures
