use Rattle.std.proofs.Common.{◌≡◌, ℕ, ◌<◌, Bool, List, sym, ap, ◌∙◌}
use Rattle.ell_word.specs.Link.{node_bound, linked, link_in}
use Rattle.ell_word.specs.Node.{IsInternal, card}
use Rattle.ell_layout.specs.declared.field.Field.{Field}
use Rattle.ell_layout.specs.declared.field.Field.TheVariants.{L}
use Rattle.ell_layout.specs.Words.{Words, word, table_word, table_written, with_child, with_tag, child_field, words_of}
use Rattle.ell_layout.proofs.lemmas.Listed.{listed_small}
use Rattle.ell_layout.proofs.lemmas.Writes.{child_word_at_node, child_written}
use Rattle.ell_word.proofs.Numbers.{link_back}

-- what a list says at a child of an internal node is the child with its tag
pub child_link_is : (words : List ℕ) (node : ℕ) (right : Bool) → IsInternal node
    → link_in (table_word (words_of words) (card node) (child_field right))
    ≡ record { node = (words_of words).child node right; tag = (words_of words).tag node right }
child_link_is words node right inner =
    ap link_in (child_word_at_node (words_of words) node right inner)
    ∙ link_back ((words_of words).child node right) ((words_of words).tag node right) ((listed_small words).child node right)

-- what it says at the leaf of a card is the leaf with the tag that the card expects
pub leaf_link_is : (words : List ℕ) (c : ℕ)
    → link_in (table_word (words_of words) c L) ≡ record { node = (words_of words).l c; tag = (words_of words).expects c }
leaf_link_is words c = link_back ((words_of words).l c) ((words_of words).expects c) ((listed_small words).l c)

-- the words after a write of a child word
pub child_is_written : (w after : Words) (node : ℕ) (right : Bool) (child tag c value : ℕ) (field : Field) → IsInternal node → child < node_bound
    → after ≡ table_written w c field value → c ≡ card node → field ≡ child_field right → value ≡ linked (record { node = child; tag = tag })
    → after ≡ with_tag (with_child w node right child) node right tag
child_is_written w after node right child tag c value field inner small is card_is field_is value_is =
    is ∙ ((λ t. table_written w (card_is t) (field_is t) (value_is t)) ∙ child_written w node right child tag small inner)

-- what is read of a field that has no tag is what the field says
pub plain_is_read : (w : Words) (found c d value : ℕ) (field plain : Field) → found ≡ table_word w c field → c ≡ d → field ≡ plain
    → table_word w d plain ≡ word w d plain → word w d field ≡ value → found ≡ value
plain_is_read w found c d value field plain is card_is field_is same says =
    is ∙ ((λ t. table_word w (card_is t) (field_is t)) ∙ (same ∙ (ap (word w d) (sym field_is) ∙ says)))
