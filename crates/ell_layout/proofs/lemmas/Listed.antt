use Rattle.std.proofs.Common.{◌≡◌, ◌≢◌, ℕ, zero, suc, ◌+◌, ◌%◌, ◌<◌, ◌≤◌, Bool, List, [], ◌∷◌, length, length-set, get_or, slice_index, slice_set, refl, sym, ap, ◌∙◌, arith, inl, inr, get_or-set_same, get_or-set_other, true, false}
use Rattle.std.proofs.lemmas.Bool.{cases_eq}
use Rattle.std.proofs.lemmas.Grind.{get_or_default_zero}
use Rattle.ell_layout.specs.declared.field.Field.{Field}
use Rattle.ell_layout.specs.declared.field.Field.TheVariants.{Gp, P, L, Was, Key, Left, Right, Update, LeftLeafKey, RightLeafKey, LeftValue, RightValue}
use Rattle.ell_layout.specs.Layout.{address, place, table_size, listed}
use Rattle.ell_layout.specs.Words.{Words, word, table_word, table_written, table_words, words_of}
use Rattle.ell_layout.specs.Cards.{filled_list, table_filled, table_claimed, says_by}
use Rattle.ell_layout.specs.Laws.{SameAfterSameWrite, WordsAreListed, FilledListsAreFilled}
use Rattle.ell_layout.proofs.lemmas.Writes.{SmallNodes, equal_tables, table_written_here, table_written_elsewhere, table_written_next, table_written_flat, table_written_small, table_written_no_key, table_written_no_value, table_written_inner_value, table_written_leaf_child, table_written_leaf_tag, table_written_leaf_update, made_table_word, made_small, made_no_key, made_no_value, made_inner_value, made_table_leaf_child, made_table_leaf_tag, made_leaf_update}
use Rattle.ell_word.proofs.Numbers.{link_back}
use Rattle.ell_word.specs.Link.{link_in}
use Rattle.ell_word.specs.declared.link.Link.{Link}
use Rattle.ell_word.specs.Node.{internal}

-- The words that a list is have at each field the list's word.
pub words_are_listed : WordsAreListed
unfolding words_of
words_are_listed words c field = made_table_word (slice_index words 0) (listed words) c field

-- The claim word of the words that a list is.
pub listed_next : (words : List ℕ) → (words_of words).next ≡ slice_index words 0
unfolding words_of
listed_next words = refl

-- From where on the tree is flat in the words that a list is.
pub listed_flat : (words : List ℕ) → (words_of words).flat_from ≡ slice_index words 1
unfolding words_of
listed_flat words = refl

-- A word that is written to word 1 says from where on the tree is flat.
pub flat_written : (words : List ℕ) (from : ℕ) → 1 < length words → words_of (slice_set words 1 from) ≡ record (words_of words) { flat_from = from }
unfolding words_of
flat_written words from room =
    let next : slice_index (slice_set words 1 from) 0 ≡ slice_index words 0 = get_or-set_other words 1 0 from 0 (omega arith) in
    let fields : (c : ℕ) (f : Field) → listed (slice_set words 1 from) c f ≡ listed words c f =
    λ c f. get_or-set_other words 1 (address c f) from 0 (omega arith) in
    let flat : slice_index (slice_set words 1 from) 1 ≡ from = get_or-set_same words 1 from 0 room in
    λ i. record (table_words (next i) (λ c f. fields c f i)) { flat_from = flat i }

-- What is no node has no key in the words that a list is.
pub listed_no_key : (words : List ℕ) (x : ℕ) → x % 4 ≡ 3 → (words_of words).key x ≡ 0
unfolding words_of
listed_no_key words x h = made_no_key (slice_index words 0) (listed words) x h

-- What is no node has no value in the words that a list is.
pub listed_no_value : (words : List ℕ) (x : ℕ) → x % 4 ≡ 3 → (words_of words).value x ≡ 0
unfolding words_of
listed_no_value words x h = made_no_value (slice_index words 0) (listed words) x h

-- An internal node has no value in the words that a list is.
pub listed_inner_value : (words : List ℕ) (x : ℕ) → x % 4 ≡ 0 → (words_of words).value x ≡ 0
unfolding words_of
listed_inner_value words x h = made_inner_value (slice_index words 0) (listed words) x h

-- A leaf has no child in the words that a list is.
pub listed_leaf_child : (words : List ℕ) (x : ℕ) (right : Bool) → x % 4 ≢ 0 → (words_of words).child x right ≡ 0
unfolding words_of
listed_leaf_child words x right h = made_table_leaf_child (slice_index words 0) (listed words) x right h

-- A leaf has no tag of a child in the words that a list is.
pub listed_leaf_tag : (words : List ℕ) (x : ℕ) (right : Bool) → x % 4 ≢ 0 → (words_of words).tag x right ≡ 0
unfolding words_of
listed_leaf_tag words x right h = made_table_leaf_tag (slice_index words 0) (listed words) x right h

-- The nodes in the words that a list is are below the bound.
pub listed_small : (words : List ℕ) → SmallNodes (words_of words)
unfolding words_of
listed_small words = let small = made_small (slice_index words 0) (listed words) in record { l = small.l; child = small.child }

-- A leaf has no update word in the words that a list is.
pub listed_leaf_update : (words : List ℕ) (x : ℕ) → x % 4 ≢ 0 → (words_of words).update x ≡ 0
unfolding words_of
listed_leaf_update words x h = made_leaf_update (slice_index words 0) (listed words) x h

-- The place of a field is below twelve.
pub place_small : (field : Field) → place field < 12
place_small Gp = omega arith
place_small P = omega arith
place_small L = omega arith
place_small Was = omega arith
place_small Key = omega arith
place_small Left = omega arith
place_small Right = omega arith
place_small Update = omega arith
place_small LeftLeafKey = omega arith
place_small RightLeafKey = omega arith
place_small LeftValue = omega arith
place_small RightValue = omega arith

-- Each field of a table's card has an address in the table, after that of the claim word.
pub address_in_table : (cards c : ℕ) (field : Field) → c ≤ cards → (0 < address c field) × (address c field < table_size cards)
address_in_table cards c field h = let i : place field < 12 = place_small field in (omega arith, omega arith)

-- Each field of a table's card lies in a list that has as many words as the table needs.
pub address_inside : (words : List ℕ) (cards c : ℕ) (field : Field) → length words ≡ table_size cards → c ≤ cards
    → address c field < length words
address_inside words cards c field size h = let i = address_in_table cards c field h in omega arith

-- What is read at word 0 is the claim word.
pub claim_is_read : (words : List ℕ) (found : ℕ) → 0 < length words → found ≡ get_or words 0 found → found ≡ (words_of words).next
claim_is_read words found fits e = e ∙ (get_or_default_zero words 0 found fits ∙ sym (listed_next words))

-- What is read at the address of a field is the word of the field.
pub word_is_read : (words : List ℕ) (cards c : ℕ) (field : Field) (at found : ℕ) → length words ≡ table_size cards → c ≤ cards
    → at ≡ address c field → found ≡ get_or words at found → found ≡ table_word (words_of words) c field
word_is_read words cards c field at found size h a e =
    e ∙ (ap (λ i. get_or words i found) a
    ∙ (get_or_default_zero words (address c field) found (address_inside words cards c field size h)
    ∙ sym (words_are_listed words c field)))

-- The field that stands at a place.
field_at : ℕ → Field
field_at zero = Key
field_at (suc zero) = Left
field_at (suc (suc zero)) = Right
field_at (suc (suc (suc zero))) = Update
field_at (suc (suc (suc (suc zero)))) = LeftLeafKey
field_at (suc (suc (suc (suc (suc zero))))) = RightLeafKey
field_at (suc (suc (suc (suc (suc (suc zero)))))) = LeftValue
field_at (suc (suc (suc (suc (suc (suc (suc zero))))))) = RightValue
field_at (suc (suc (suc (suc (suc (suc (suc (suc zero)))))))) = Gp
field_at (suc (suc (suc (suc (suc (suc (suc (suc (suc zero))))))))) = P
field_at (suc (suc (suc (suc (suc (suc (suc (suc (suc (suc zero)))))))))) = L
field_at (suc (suc (suc (suc (suc (suc (suc (suc (suc (suc (suc n))))))))))) = Was

-- The field at the place of a field is that field.
field_of_place : (field : Field) → field_at (place field) ≡ field
unfolding field_at
field_of_place Gp = refl
field_of_place P = refl
field_of_place L = refl
field_of_place Was = refl
field_of_place Key = refl
field_of_place Left = refl
field_of_place Right = refl
field_of_place Update = refl
field_of_place LeftLeafKey = refl
field_of_place RightLeafKey = refl
field_of_place LeftValue = refl
field_of_place RightValue = refl

-- The same address is that of the same card.
pub same_card : (c : ℕ) (field : Field) (d : ℕ) (other : Field) → address c field ≡ address d other → c ≡ d
same_card c field d other e = let i : place field < 12 = place_small field in let j : place other < 12 = place_small other in omega arith

-- Another card's words stand at other addresses.
pub apart : (c : ℕ) (field : Field) (d : ℕ) (other : Field) → c ≢ d → address c field ≢ address d other
apart c field d other n e = n (same_card c field d other e)

-- The same place is that of the same field.
pub same_place-field : (field other : Field) → place field ≡ place other → field ≡ other
same_place-field field other e = sym (field_of_place field) ∙ (ap field_at e ∙ field_of_place other)

-- The same address is that of the same field.
pub same_field : (c : ℕ) (field : Field) (d : ℕ) (other : Field) → address c field ≡ address d other → field ≡ other
same_field c field d other e =
    let i : c ≡ d = same_card c field d other e in
    same_place-field field other (omega arith)

-- No two fields have one address.
pub addresses_apart : (c d : ℕ) (field other : Field) → address c field ≡ address d other → (c ≡ d) × (field ≡ other)
addresses_apart c d field other e = (same_card c field d other e, same_field c field d other e)

module _ (words : List ℕ) (w : Words) (c : ℕ) (field : Field) (d : ℕ) (other : Field) (value : ℕ) where
  -- A write at this address is read there.
  same_here : address d other < length words → address c field ≡ address d other
      → listed (slice_set words (address d other) value) c field ≡ table_word (table_written w d other value) c field
  same_here fits e =
      ap (slice_index (slice_set words (address d other) value)) e ∙ (get_or-set_same words (address d other) value 0 fits
      ∙ (sym (table_written_here w d other value)
      ∙ λ t. table_word (table_written w d other value) (sym (same_card c field d other e) t) (sym (same_field c field d other e) t)))

  -- A write at another address leaves the word here.
  same_elsewhere : listed words c field ≡ table_word w c field → address c field ≢ address d other
      → listed (slice_set words (address d other) value) c field ≡ table_word (table_written w d other value) c field
  same_elsewhere same n =
      get_or-set_other words (address d other) (address c field) value 0 n ∙ (same ∙ sym (table_written_elsewhere w c field d other value n))

-- Where a list has the machine's word, it has it after the same write in both.
pub same_after_same_write : SameAfterSameWrite
same_after_same_write words w c field d other value fits same =
    elim (cases_eq (address c field) (address d other)) [
      | inl e ↦ same_here words w c field d other value fits e
      | inr n ↦ same_elsewhere words w c field d other value same n
    ]

-- A write to a list writes the field of the card whose address it is.
pub words_after_write : (words : List ℕ) (d : ℕ) (other : Field) (value : ℕ) → address d other < length words
    → words_of (slice_set words (address d other) value) ≡ table_written (words_of words) d other value
words_after_write words d other value fits = equal_tables _ _ record {
  small = listed_small (slice_set words (address d other) value);
  other_small = table_written_small (words_of words) d other value (listed_small words);
  next = listed_next (slice_set words (address d other) value)
      ∙ (get_or-set_other words (address d other) 0 value 0 (omega arith) ∙ (sym (listed_next words) ∙ sym (table_written_next (words_of words) d other value)));
  flat_from = listed_flat (slice_set words (address d other) value)
      ∙ (get_or-set_other words (address d other) 1 value 0 (omega arith) ∙ (sym (listed_flat words) ∙ sym (table_written_flat (words_of words) d other value)));
  word = λ c field. words_are_listed (slice_set words (address d other) value) c field
      ∙ same_after_same_write words (words_of words) c field d other value fits (sym (words_are_listed words c field));
  no_key = λ x h. listed_no_key (slice_set words (address d other) value) x h
      ∙ (sym (listed_no_key words x h) ∙ sym (table_written_no_key (words_of words) d other value x h));
  no_value = λ x h. listed_no_value (slice_set words (address d other) value) x h
      ∙ (sym (listed_no_value words x h) ∙ sym (table_written_no_value (words_of words) d other value x h));
  value = λ x h. listed_inner_value (slice_set words (address d other) value) x h
      ∙ (sym (listed_inner_value words x h) ∙ sym (table_written_inner_value (words_of words) d other value x h));
  child = λ x right h. listed_leaf_child (slice_set words (address d other) value) x right h
      ∙ (sym (listed_leaf_child words x right h) ∙ sym (table_written_leaf_child (words_of words) d other value x right h));
  tag = λ x right h. listed_leaf_tag (slice_set words (address d other) value) x right h
      ∙ (sym (listed_leaf_tag words x right h) ∙ sym (table_written_leaf_tag (words_of words) d other value x right h));
  update = λ x h. listed_leaf_update (slice_set words (address d other) value) x h
      ∙ (sym (listed_leaf_update words x h) ∙ sym (table_written_leaf_update (words_of words) d other value x h));
}

-- Fields that are written leave the length of a list.
pub length_after_fields : (words : List ℕ) (c : ℕ) (es : List (Field × ℕ)) → length (filled_list words c es) ≡ length words
length_after_fields words c [] = refl
length_after_fields words c (e ∷ es) = length_after_fields (slice_set words (address c e.0) e.1) c es ∙ length-set words (address c e.0) e.1

-- Fields of a card that are written to a list fill that card.
pub words_after_fields : FilledListsAreFilled
words_after_fields words cards c [] size below = refl
words_after_fields words cards c (e ∷ es) size below =
    words_after_fields (slice_set words (address c e.0) e.1) cards c es (length-set words (address c e.0) e.1 ∙ size) below
    ∙ ap (λ w. table_filled w c es) (words_after_write words c e.0 e.1 (address_inside words cards c e.0 size below))

-- What a field says in the words that a list is, it says by the list's word.
pub said_in_list : (words : List ℕ) (c : ℕ) (field : Field) → word (words_of words) c field ≡ says_by field (listed words c field)
said_in_list words c L = ap (λ (l : Link). l.node) (sym (link_back ((words_of words).l c) ((words_of words).expects c) ((listed_small words).l c))
    ∙ ap link_in (words_are_listed words c L))
said_in_list words c Left = ap (λ (l : Link). l.node)
    (sym (link_back ((words_of words).child (internal c) false) ((words_of words).tag (internal c) false) ((listed_small words).child (internal c) false))
    ∙ ap link_in (words_are_listed words c Left))
said_in_list words c Right = ap (λ (l : Link). l.node)
    (sym (link_back ((words_of words).child (internal c) true) ((words_of words).tag (internal c) true) ((listed_small words).child (internal c) true))
    ∙ ap link_in (words_are_listed words c Right))
said_in_list words c Gp = words_are_listed words c Gp
said_in_list words c P = words_are_listed words c P
said_in_list words c Was = words_are_listed words c Was
said_in_list words c Key = words_are_listed words c Key
said_in_list words c Update = words_are_listed words c Update
said_in_list words c LeftLeafKey = words_are_listed words c LeftLeafKey
said_in_list words c RightLeafKey = words_are_listed words c RightLeafKey
said_in_list words c LeftValue = words_are_listed words c LeftValue
said_in_list words c RightValue = words_are_listed words c RightValue

-- Another claim word leaves the words of the cards.
pub same_but_next : (w : Words) (value c : ℕ) (field : Field) → word w c field ≡ word (record w { next = value }) c field
same_but_next w value c Gp = refl
same_but_next w value c _ = refl

-- A write of word 0 writes the claim word.
pub words_after_claim : (words : List ℕ) (value : ℕ) → 0 < length words
    → words_of (slice_set words 0 value) ≡ record (words_of words) { next = value }
unfolding words_of
words_after_claim words value fits =
    λ t. record (table_words (get_or-set_same words 0 value 0 fits t) (λ c field. get_or-set_other words 0 (address c field) value 0 (omega arith) t)) {
      flat_from = get_or-set_other words 0 1 value 0 (omega arith) t;
    }

-- Where a card is the next one and filled, a write of the number after it to word 0 claims it.
pub words_after_filling : (before after : List ℕ) (filling : List (Field × ℕ)) (c : ℕ) → c ≡ (words_of before).next
    → words_of after ≡ table_filled (words_of before) c filling → 0 < length after
    → words_of (slice_set after 0 (c + 1)) ≡ table_claimed (words_of before) filling
words_after_filling before after filling c next e fits =
    words_after_claim after (c + 1) fits
    ∙ (ap {B = Words} (λ w. record w { next = c + 1 }) e
    ∙ ap {B = Words} (λ n. record (table_filled (words_of before) n filling) { next = n + 1 }) next)
