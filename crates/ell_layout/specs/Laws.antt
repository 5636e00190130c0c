use Rattle.std.specs.Prelude.{◌≡◌, ◌≢◌, ◌%◌, Bool, slice_index, ℕ, ◌<◌, ◌≤◌, List, length, slice_set}
use Rattle.ell_word.specs.Node.{IsInternal, IsNode, card, right_leaf}
use Rattle.ell_word.specs.Link.{linked, node_bound, tag_unit}
use Rattle.ell_layout.specs.declared.field.Field.{Field}
use Rattle.ell_layout.specs.declared.field.Field.TheVariants.{Update}
use Rattle.ell_layout.specs.Layout.{address, table_size, listed}
use Rattle.ell_layout.specs.Words.{Words, IsLeaf, word, written, table_word, table_written, words_of, key_field, value_field, child_field}
use Rattle.ell_layout.specs.Cards.{filled, filled_list, stored, claimed, table_filled, table_claimed, insert_filling, delete_filling}

-- where a list has the machine's word at a field, it has it after the same write in both, at every address
abbrev pub SameAfterSameWrite : Type 0
SameAfterSameWrite = (words : List ℕ) (w : Words) (c : ℕ) (field : Field) (d : ℕ) (other : Field) (value : ℕ)
    → address d other < length words → listed words c field ≡ table_word w c field
    → listed (slice_set words (address d other) value) c field ≡ table_word (table_written w d other value) c field

-- each field of each card of a table has an address there, after that of the claim word
abbrev pub AddressesAreInside : Type 0
AddressesAreInside =
    (cards c : ℕ) (field : Field) → c ≤ cards → (0 < address c field) × (address c field < table_size cards)

-- no two fields have one address
abbrev pub AddressesAreApart : Type 0
AddressesAreApart = (c d : ℕ) (field other : Field) → address c field ≡ address d other → (c ≡ d) × (field ≡ other)

-- the words that a list is have at each field the list's word
abbrev pub WordsAreListed : Type 0
WordsAreListed = (words : List ℕ) (c : ℕ) (field : Field) → table_word (words_of words) c field ≡ listed words c field

-- after these fields of a card were written to a list of a table's size, it has the words with that card filled
abbrev pub FilledListsAreFilled : Type 0
FilledListsAreFilled =
    (words : List ℕ) (cards c : ℕ) (fields : List (Field × ℕ)) → length words ≡ table_size cards → c ≤ cards
    → words_of (filled_list words c fields) ≡ table_filled (words_of words) c fields

-- a table whose next card is filled for an insert or a delete, with the tag at the leaf's node, has claimed the card: the
-- leaves of an insert's card are their own child words where they fit beside a tag
pub record FillingsAreClaims (w : Words) (parent leaf tag : ℕ) : Type 0 where
  pub insert : (key value leaf_key leaf_value : ℕ) → right_leaf w.next < tag_unit
      → table_claimed w (insert_filling w.next key value parent (linked (record { node = leaf; tag = tag })) leaf_key leaf_value)
      ≡ claimed w tag (insert_filling w.next key value parent leaf leaf_key leaf_value)
  pub delete : (grandparent was : ℕ)
      → table_claimed w (delete_filling grandparent parent (linked (record { node = leaf; tag = tag })) was)
      ≡ claimed w tag (delete_filling grandparent parent leaf was)

abbrev pub TablesClaim : Type 0
TablesClaim = (w : Words) (parent leaf tag : ℕ) → leaf < node_bound → FillingsAreClaims w parent leaf tag

-- each field of a filled card has what was written to it last, or what it had
abbrev pub FilledCardsSay : Type 0
FilledCardsSay = (w : Words) (c : ℕ) (fields : List (Field × ℕ)) (field : Field)
    → word (filled w c fields) c field ≡ stored fields field (word w c field)

-- a write to a list is read at its address, and leaves the words at all others, and the claim word
pub record ListIsWritten (words : List ℕ) (c : ℕ) (field : Field) (value : ℕ) : Type 0 where
  pub here : address c field < length words → listed (slice_set words (address c field) value) c field ≡ value
  pub elsewhere : (d : ℕ) (other : Field) → address d other ≢ address c field
      → listed (slice_set words (address c field) value) d other ≡ listed words d other
  pub next : slice_index (slice_set words (address c field) value) 0 ≡ slice_index words 0

abbrev pub ListsAreWritten : Type 0
ListsAreWritten = (words : List ℕ) (c : ℕ) (field : Field) (value : ℕ) → ListIsWritten words c field value

-- the same of a write to the machine's words
pub record WordIsWritten (w : Words) (c : ℕ) (field : Field) (value : ℕ) : Type 0 where
  pub here : word (written w c field value) c field ≡ value
  pub elsewhere : (d : ℕ) (other : Field) → address d other ≢ address c field
      → word (written w c field value) d other ≡ word w d other
  pub next : (written w c field value).next ≡ w.next

abbrev pub WordsAreWritten : Type 0
WordsAreWritten = (w : Words) (c : ℕ) (field : Field) (value : ℕ) → WordIsWritten w c field value

-- the key of a node, the value of a leaf, and the children and the update word of an internal node are words of its
-- card
pub record NodeIsOnCard (w : Words) (x : ℕ) : Type 0 where
  pub key : IsNode x → w.key x ≡ word w (card x) (key_field (x % 4))
  pub value : IsNode x → IsLeaf x → w.value x ≡ word w (card x) (value_field (x % 4))
  pub child : IsInternal x → (right : Bool) → w.child x right ≡ word w (card x) (child_field right)
  pub update : IsInternal x → w.update x ≡ word w (card x) Update

abbrev pub NodesAreOnCards : Type 0
NodesAreOnCards = (w : Words) (x : ℕ) → NodeIsOnCard w x
