use Rattle.std.specs.Prelude.{ℕ, ◌+◌, ◌%◌, ◌==◌, ◌||◌, ◌&&◌, nat_lt, nat_le, not, if◌then◌else◌, Bool, true, false, zero, suc, List, slice_index}
use Rattle.ell_word.specs.Node.{card, internal, left_leaf, right_leaf, IsInternal}
use Rattle.ell_word.specs.Link.{linked, link_in}
use Rattle.ell_layout.specs.Layout.{listed}
use Rattle.ell_layout.specs.declared.field.Field.{Field}
use Rattle.ell_layout.specs.declared.field.Field.TheVariants.{Gp, P, L, Was, Key, Left, Right, Update, LeftLeafKey, RightLeafKey, LeftValue, RightValue}

-- a leaf is a node that is not internal
abbrev pub IsLeaf : ℕ → Type 0
IsLeaf node = ¬ IsInternal node

-- the claim word; what each card says of its search, and the tag that its child exchange expects; and of nodes the
-- keys, values, children (true: right) with their tags, which count the changes of each child word, and updates; and
-- of a flat tree the first card that is not of its opening tree, of any other tree 0
pub record Words : Type 0 where
  pub next : ℕ
  pub gp : ℕ → ℕ
  pub p : ℕ → ℕ
  pub l : ℕ → ℕ
  pub expects : ℕ → ℕ
  pub was : ℕ → ℕ
  pub key : ℕ → ℕ
  pub value : ℕ → ℕ
  pub child : ℕ → Bool → ℕ
  pub tag : ℕ → Bool → ℕ
  pub update : ℕ → ℕ
  pub flat_from : ℕ

-- whether a node has a block, by the number from which a tree is flat: in a flat tree each leaf has one, and each internal
-- node that is not of the opening tree; and in any other tree none
unfoldable pub has_block : ℕ → ℕ → Bool
has_block from x = nat_lt 0 from && (nat_le from (card x) || not (x % 4 == 0))

-- whether the tree of these words is flat
abbrev pub is_flat : Words → Bool
is_flat w = nat_lt 0 w.flat_from

-- what a field of a card says: a child, and the leaf where a search ended, without their tags
abbrev pub word : Words → ℕ → Field → ℕ
word w c Gp = w.gp c
word w c P = w.p c
word w c L = w.l c
word w c Was = w.was c
word w c Key = w.key (internal c)
word w c Left = w.child (internal c) false
word w c Right = w.child (internal c) true
word w c Update = w.update (internal c)
word w c LeftLeafKey = w.key (left_leaf c)
word w c RightLeafKey = w.key (right_leaf c)
word w c LeftValue = w.value (left_leaf c)
word w c RightValue = w.value (right_leaf c)

-- the word that a table has at a field of a card: a child stands with its tag, and the leaf where a search ended with
-- the tag that the card expects
abbrev pub table_word : Words → ℕ → Field → ℕ
table_word w c L = linked (record { node = w.l c; tag = w.expects c })
table_word w c Left = linked (record { node = w.child (internal c) false; tag = w.tag (internal c) false })
table_word w c Right = linked (record { node = w.child (internal c) true; tag = w.tag (internal c) true })
table_word w c field = word w c field

-- a function with another value at x
abbrev pub put : {A : Type 0} → (ℕ → A) → ℕ → A → ℕ → A
put f x value y = if y == x then value else f y

-- a node's children with another one on a side
abbrev pub put_side : (Bool → ℕ) → Bool → ℕ → Bool → ℕ
put_side children true value true = value
put_side children true value false = children false
put_side children false value true = children true
put_side children false value false = value

-- the words with another update word of a node
abbrev pub with_update : Words → ℕ → ℕ → Words
with_update w node value = record w { update = put w.update node value }

-- the words with another child of a node
abbrev pub with_child : Words → ℕ → Bool → ℕ → Words
with_child w node right value = record w { child = put w.child node (put_side (w.child node) right value) }

-- the words with another tag of a child
abbrev pub with_tag : Words → ℕ → Bool → ℕ → Words
with_tag w node right value = record w { tag = put w.tag node (put_side (w.tag node) right value) }

-- the words after a change of a child word: another child, and a tag that is greater by one
abbrev pub relinked : Words → ℕ → Bool → ℕ → Words
relinked w node right value = with_tag (with_child w node right value) node right (w.tag node right + 1)

-- the words with another key of a node
abbrev pub with_key : Words → ℕ → ℕ → Words
with_key w node value = record w { key = put w.key node value }

-- the words with another value of a leaf
abbrev pub with_value : Words → ℕ → ℕ → Words
with_value w leaf value = record w { value = put w.value leaf value }

-- the words where a field of a card says another thing; a child that is written has tag 0
abbrev pub written : Words → ℕ → Field → ℕ → Words
written w c Gp value = record w { gp = put w.gp c value }
written w c P value = record w { p = put w.p c value }
written w c L value = record w { l = put w.l c value }
written w c Was value = record w { was = put w.was c value }
written w c Key value = with_key w (internal c) value
written w c Left value = with_tag (with_child w (internal c) false value) (internal c) false 0
written w c Right value = with_tag (with_child w (internal c) true value) (internal c) true 0
written w c Update value = with_update w (internal c) value
written w c LeftLeafKey value = with_key w (left_leaf c) value
written w c RightLeafKey value = with_key w (right_leaf c) value
written w c LeftValue value = with_value w (left_leaf c) value
written w c RightValue value = with_value w (right_leaf c) value

-- the words after a write of a table's word to a field of a card: a child word says a node and its tag
abbrev pub table_written : Words → ℕ → Field → ℕ → Words
table_written w c L value = record w { l = put w.l c (link_in value).node; expects = put w.expects c (link_in value).tag }
table_written w c Left value = with_tag (with_child w (internal c) false (link_in value).node)
    (internal c) false (link_in value).tag
table_written w c Right value = with_tag (with_child w (internal c) true (link_in value).node)
    (internal c) true (link_in value).tag
table_written w c field value = written w c field value

-- the field that has the key of a node, by the remainder of its number
abbrev pub key_field : ℕ → Field
key_field zero = Key
key_field (suc zero) = LeftLeafKey
key_field (suc (suc n)) = RightLeafKey

-- the field that has the value of a leaf
abbrev pub value_field : ℕ → Field
value_field (suc zero) = LeftValue
value_field _ = RightValue

-- the field that has a child
abbrev pub child_field : Bool → Field
child_field true = Right
child_field false = Left

-- the words by what the cards' fields say: an internal node has no value, a leaf no child and no update word, a
-- non-node nothing; all tags are 0
abbrev pub words_from : ℕ → (ℕ → Field → ℕ) → Words
words_from next at = record {
  next = next;
  gp = λ c. at c Gp;
  p = λ c. at c P;
  l = λ c. at c L;
  expects = λ c. 0;
  was = λ c. at c Was;
  key = λ x. if x % 4 == 3 then 0 else at (card x) (key_field (x % 4));
  value = λ x. if x % 4 == 0 || x % 4 == 3 then 0 else at (card x) (value_field (x % 4));
  child = λ x right. if x % 4 == 0 then at (card x) (child_field right) else 0;
  tag = λ x right. 0;
  update = λ x. if x % 4 == 0 then at (card x) Update else 0;
  flat_from = 0;
}

-- the same by the words that a table has at them: a child word, and that of the leaf where a search ended, are read as
-- a node and a tag
abbrev pub table_words : ℕ → (ℕ → Field → ℕ) → Words
table_words next at = record (words_from next at) {
  l = λ c. (link_in (at c L)).node;
  expects = λ c. (link_in (at c L)).tag;
  child = λ x right. if x % 4 == 0 then (link_in (at (card x) (child_field right))).node else 0;
  tag = λ x right. if x % 4 == 0 then (link_in (at (card x) (child_field right))).tag else 0;
}

-- the words that a list of all words is: word 0 is the claim word, and word 1 says from which card on the tree is flat
unfoldable pub words_of : List ℕ → Words
words_of words = record (table_words (slice_index words 0) (listed words)) { flat_from = slice_index words 1 }
