use Rattle.std.proofs.Common.{◌≡◌, ◌≢◌, ℕ, ◌<◌, List, length, slice_index, slice_set, arith, get_or-set_same, get_or-set_other}
use Rattle.ell_layout.specs.declared.field.Field.{Field}
use Rattle.ell_layout.specs.Layout.{address, listed}
use Rattle.ell_layout.specs.Laws.{ListsAreWritten, WordsAreWritten, NodesAreOnCards}
use Rattle.ell_layout.proofs.lemmas.Writes.{written_here, written_elsewhere, written_next, key_at_node, value_at_leaf, child_at_node, update_at_node}

module _ (words : List ℕ) (c : ℕ) (field : Field) (value : ℕ) where
  -- a write to a list is read at its address
  pub listed_here : address c field < length words → listed (slice_set words (address c field) value) c field ≡ value
  listed_here fits = get_or-set_same words (address c field) value 0 fits

  -- it leaves the words at the other addresses
  pub listed_elsewhere : (d : ℕ) (other : Field) → address d other ≢ address c field
      → listed (slice_set words (address c field) value) d other ≡ listed words d other
  listed_elsewhere d other n = get_or-set_other words (address c field) (address d other) value 0 n

  -- and the claim word
  pub listed_next_kept : slice_index (slice_set words (address c field) value) 0 ≡ slice_index words 0
  listed_next_kept = get_or-set_other words (address c field) 0 value 0 (omega arith)

-- a write to a list is seen at its own address alone
pub lists_are_written : ListsAreWritten
lists_are_written words c field value = record {
  here = listed_here words c field value;
  elsewhere = listed_elsewhere words c field value;
  next = listed_next_kept words c field value;
}

-- so is one to the machine's words
pub words_are_written : WordsAreWritten
words_are_written w c field value = record {
  here = written_here w c field value;
  elsewhere = λ d other n. written_elsewhere w d other c field value n;
  next = written_next w c field value;
}

-- what the words at a node are
pub nodes_are_on_cards : NodesAreOnCards
nodes_are_on_cards w x = record {
  key = key_at_node w x;
  value = λ node outer. value_at_leaf w x node outer;
  child = λ inner right. child_at_node w x right inner;
  update = λ inner. update_at_node w x inner;
}
