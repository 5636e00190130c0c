use Rattle.std.proofs.Common.{◌≡◌, ℕ, ◌+◌, ◌*◌, ◌<◌, true, false, List, [], ◌∷◌, drop, refl, ap, ap₂, ◌∙◌, arith}
use Rattle.ell_word.specs.Link.{linked, tag_unit, node_bound}
use Rattle.ell_word.proofs.Numbers.{link_back, bare_says_node, bare_says_tag}
use Rattle.ell_word.specs.Node.{left_leaf, right_leaf}
use Rattle.ell_layout.specs.declared.field.Field.{Field}
use Rattle.ell_layout.specs.declared.field.Field.TheVariants.{Gp, P, L, Was, Left, Right}
use Rattle.ell_layout.specs.Words.{Words, put, written, table_written, with_child, with_tag}
use Rattle.ell_layout.specs.Cards.{filled, table_filled, insert_filling}
use Rattle.ell_layout.specs.Laws.{TablesClaim}

-- A field whose word in a table is what the field says: a child in 38 bits, without a tag, or any other field but the leaf.
abbrev pub IsPlain : Field × ℕ → Type 0
IsPlain (L, v) = ⊥
IsPlain (Left, v) = v < tag_unit
IsPlain (Right, v) = v < tag_unit
IsPlain (_, v) = Unit {0}

-- Such are all these fields.
abbrev pub ArePlain : List (Field × ℕ) → Type 0
ArePlain [] = Unit {0}
ArePlain (e ∷ es) = IsPlain e × ArePlain es

-- Such a field is the same written as a word of a table.
pub table_written_plain : (w : Words) (c : ℕ) (e : Field × ℕ) → IsPlain e → table_written w c e.0 e.1 ≡ written w c e.0 e.1
table_written_plain w c (L, v) h = absurd h
table_written_plain w c (Left, v) h = ap₂ {C = Words} (λ n t. with_tag (with_child w (4 * c) false n) (4 * c) false t) (bare_says_node v h) (bare_says_tag v h)
table_written_plain w c (Right, v) h = ap₂ {C = Words} (λ n t. with_tag (with_child w (4 * c) true n) (4 * c) true t) (bare_says_node v h) (bare_says_tag v h)
table_written_plain w c (_, v) h = refl

-- Such fields are the same written as words of a table.
pub table_filled_plain : (w : Words) (c : ℕ) (es : List (Field × ℕ)) → ArePlain es → table_filled w c es ≡ filled w c es
table_filled_plain w c [] h = refl
table_filled_plain w c (e ∷ es) h =
    ap (λ k. table_filled k c es) (table_written_plain w c e h.0) ∙ table_filled_plain (written w c e.0 e.1) c es h.1

-- A write of a field leaves the tags that the cards expect.
written_expecting : (w : Words) (expects : ℕ → ℕ) (c : ℕ) (field : Field) (v : ℕ)
    → written (record w { expects = expects }) c field v ≡ record (written w c field v) { expects = expects }
written_expecting w expects c L v = refl
written_expecting w expects c _ v = refl

-- Fields that are written leave the tags that the cards expect.
pub filled_expecting : (w : Words) (expects : ℕ → ℕ) (c : ℕ) (es : List (Field × ℕ))
    → filled (record w { expects = expects }) c es ≡ record (filled w c es) { expects = expects }
filled_expecting w expects c [] = refl
filled_expecting w expects c (e ∷ es) =
    ap (λ k. filled k c es) (written_expecting w expects c e.0 e.1) ∙ filled_expecting (written w c e.0 e.1) expects c es

-- The leaf with its tag is written as the leaf, and the tag as the one that the card expects.
leaf_written : (w : Words) (c leaf tag : ℕ) → leaf < node_bound
    → table_written w c L (linked (record { node = leaf; tag = tag })) ≡ record (written w c L leaf) { expects = put w.expects c tag }
leaf_written w c leaf tag small = λ t. record (written w c L (link_back leaf tag small t).node) { expects = put w.expects c (link_back leaf tag small t).tag }

-- A card whose leaf is written with its tag, and then such fields, is filled and expects the tag.
table_filled_leaf : (w : Words) (c leaf tag : ℕ) (es : List (Field × ℕ)) → leaf < node_bound → ArePlain es
    → table_filled (table_written w c L (linked (record { node = leaf; tag = tag }))) c es
    ≡ record (filled (written w c L leaf) c es) { expects = put w.expects c tag }
table_filled_leaf w c leaf tag es small plain =
    ap (λ k. table_filled k c es) (leaf_written w c leaf tag small)
    ∙ (table_filled_plain (record (written w c L leaf) { expects = put w.expects c tag }) c es plain
    ∙ filled_expecting (written w c L leaf) (put w.expects c tag) c es)

-- A table whose next card is filled for an insert or a delete has claimed the card.
pub tables_claim : TablesClaim
tables_claim w parent leaf tag small = record {
  insert = λ key value leaf_key leaf_value low.
      let left : left_leaf w.next < tag_unit = omega (arith, low) in
      let right : right_leaf w.next < tag_unit = omega (arith, low) in
      let tail = drop 2 (insert_filling w.next key value parent leaf leaf_key leaf_value) in
      ap {B = Words} (λ k. record k { next = w.next + 1 })
      (table_filled_leaf (written w w.next P parent) w.next leaf tag tail small (tt, (left, (right, (tt, (tt, (tt, (tt, (tt, tt)))))))));
  delete = λ grandparent was.
      ap {B = Words} (λ k. record k { next = w.next + 1 })
      (table_filled_leaf (written (written w w.next Gp grandparent) w.next P parent) w.next leaf tag ((Was, was) ∷ []) small (tt, tt));
}
