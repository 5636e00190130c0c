use Rattle.std.specs.Prelude.{ℕ, ◌+◌, ◌%◌, ◌==◌, ◌&&◌, ◌||◌, if◌then◌else◌, Bool, true, false, List, [], ◌∷◌, min, max, nat_le, nat_lt, not, slice_set}
use Rattle.ell_word.specs.declared.update.State.TheVariants as state
use Rattle.ell_word.specs.Node.{internal, left_leaf, right_leaf}
use Rattle.ell_word.specs.Word.{packed}
use Rattle.ell_word.specs.Link.{linked, link_in}
use Rattle.ell_layout.specs.declared.field.Field.{Field}
use Rattle.ell_layout.specs.declared.field.Field.TheVariants.{Gp, P, L, Was, Key, Left, Right, Update, LeftLeafKey, RightLeafKey, LeftValue, RightValue}
use Rattle.ell_layout.specs.Layout.{place, address}
use Rattle.ell_layout.specs.Words.{Words, put, written, table_written}

-- the update words of a card
abbrev pub iflag : ℕ → ℕ
iflag c = packed (record { state = state.IFlag; card = c })

abbrev pub dflag : ℕ → ℕ
dflag c = packed (record { state = state.DFlag; card = c })

abbrev pub marked : ℕ → ℕ
marked c = packed (record { state = state.Mark; card = c })

abbrev pub clean : ℕ → ℕ
clean c = packed (record { state = state.Clean; card = c })

-- whether a key is on the right side of a node: the keys at least the node's are
abbrev pub is_right : Words → ℕ → ℕ → Bool
is_right w node key = nat_le (w.key node) key

-- the child of a node on a key's side
abbrev pub child_for : Words → ℕ → ℕ → ℕ
child_for w key node = w.child node (is_right w node key)

-- its tag
abbrev pub tag_for : Words → ℕ → ℕ → ℕ
tag_for w key node = w.tag node (is_right w node key)

-- the side on which an exchange puts a new child: that of the new child's key
abbrev pub exchange_side : Words → ℕ → ℕ → Bool
exchange_side w node new = is_right w node (w.key new)

-- the sibling of a delete's leaf: the parent's left child where the right one is the leaf, else the right one
abbrev pub sibling : Words → ℕ → ℕ
sibling w c = if w.child (w.p c) true == w.l c then w.child (w.p c) false else w.child (w.p c) true

-- a delete's card has no left child
abbrev pub is_delete_card : Words → ℕ → Bool
is_delete_card w c = w.child (internal c) false == 0

-- the card's own key: a delete's is the key of its leaf, an insert's the one of its two leaf keys that its leaf lacks
abbrev pub card_key : Words → ℕ → ℕ
card_key w c =
    if is_delete_card w c then w.key (w.l c)
    else (if w.key (left_leaf c) == w.key (w.l c) then w.key (right_leaf c) else w.key (left_leaf c))

-- the value that goes with it: that of the same leaf
abbrev pub card_value : Words → ℕ → ℕ
card_value w c =
    if is_delete_card w c then w.value (w.l c)
    else (if w.key (left_leaf c) == w.key (w.l c) then w.value (right_leaf c) else w.value (left_leaf c))

-- an insert's card replaces a leaf of its key where its own two leaf keys are one: its right leaf has the new value
abbrev pub is_replace_card : Words → ℕ → Bool
is_replace_card w c = w.key (left_leaf c) == w.key (right_leaf c)

-- the node that an insert's card brings to the parent: its right leaf, if it replaces a leaf, else its internal node
abbrev pub brought_by : ℕ → Bool → ℕ
brought_by c replaces = if replaces then right_leaf c else internal c

abbrev pub brought : Words → ℕ → ℕ
brought w c = brought_by c (is_replace_card w c)

-- whether the node above which an insert's card goes stays in the tree, below the card's own node: not a leaf that the card
-- replaces, nor, in a tree that is not flat, a leaf of which the card has a copy
abbrev pub keeps_below : Words → ℕ → Bool
keeps_below w c = not (is_replace_card w c) && (nat_lt 0 w.flat_from || w.l c % 4 == 0)

-- the tag of the child of a node on the side of a card's own key
abbrev pub card_tag : Words → ℕ → ℕ → ℕ
card_tag w c node = tag_for w (card_key w c) node

-- the fields of an insert's card for key k at a leaf: a node of the greater key, and two leaves, the lesser key's left
abbrev pub insert_filling : ℕ → ℕ → ℕ → ℕ → ℕ → ℕ → ℕ → List (Field × ℕ)
insert_filling c k value parent leaf leaf_key leaf_value =
    (P, parent) ∷ (L, leaf) ∷ (Key, max k leaf_key) ∷ (Left, left_leaf c) ∷ (Right, right_leaf c) ∷ (Update, clean 0)
    ∷ (LeftLeafKey, min k leaf_key) ∷ (RightLeafKey, max k leaf_key)
    ∷ (LeftValue, (if nat_lt k leaf_key then value else leaf_value))
    ∷ (RightValue, (if nat_lt k leaf_key then leaf_value else value)) ∷ []

-- whether the node above which an insert goes is a child of the insert's node: an internal node is, and in a flat tree a
-- leaf is too
abbrev pub stays_below : Bool → ℕ → Bool
stays_below flat below = flat || below % 4 == 0

-- the children of the node of an insert's card: its own leaves, or the node above which it goes in place of the leaf with
-- that node's key
abbrev pub left_of_card : Bool → ℕ → ℕ → ℕ → ℕ → ℕ
left_of_card flat c k below below_key = if stays_below flat below && nat_le below_key k then below else left_leaf c

abbrev pub right_of_card : Bool → ℕ → ℕ → ℕ → ℕ → ℕ
right_of_card flat c k below below_key = if stays_below flat below && nat_lt k below_key then below else right_leaf c

-- the fields of an insert's card for key k above a node, where its own node gets this key; at a leaf, whose node gets the
-- greater key in a tree that is not flat, they are those that stand above
abbrev pub put_filling : Bool → ℕ → ℕ → ℕ → ℕ → ℕ → ℕ → ℕ → ℕ → List (Field × ℕ)
put_filling flat c k value node_key parent below below_key below_value =
    (P, parent) ∷ (L, below) ∷ (Key, node_key) ∷ (Left, left_of_card flat c k below below_key)
    ∷ (Right, right_of_card flat c k below below_key) ∷ (Update, clean 0)
    ∷ (LeftLeafKey, min k below_key) ∷ (RightLeafKey, max k below_key)
    ∷ (LeftValue, (if nat_lt k below_key then value else below_value))
    ∷ (RightValue, (if nat_lt k below_key then below_value else value)) ∷ []

-- the value of a leaf; an internal node has none
abbrev pub value_below : Words → ℕ → ℕ
value_below w x = if x % 4 == 0 then 0 else w.value x

-- the fields of a delete's card: what its search saw
abbrev pub delete_filling : ℕ → ℕ → ℕ → ℕ → List (Field × ℕ)
delete_filling grandparent parent leaf was = (Gp, grandparent) ∷ (P, parent) ∷ (L, leaf) ∷ (Was, was) ∷ []

-- the words with these fields of a card
abbrev pub filled : Words → ℕ → List (Field × ℕ) → Words
filled w c [] = w
filled w c (e ∷ es) = filled (written w c e.0 e.1) c es

-- what a field that had a value has once these fields were written, in their order
abbrev pub stored : List (Field × ℕ) → Field → ℕ → ℕ
stored [] field old = old
stored (e ∷ es) field old = stored es field (if place e.0 == place field then e.1 else old)

-- a list of words with these fields of a card, written in their order
abbrev pub filled_list : List ℕ → ℕ → List (Field × ℕ) → List ℕ
filled_list words c [] = words
filled_list words c (e ∷ es) = filled_list (slice_set words (address c e.0) e.1) c es

-- the next card is claimed and filled, and expects a child word of this tag
abbrev pub claimed : Words → ℕ → List (Field × ℕ) → Words
claimed w tag filling =
    record (filled w w.next filling) { next = w.next + 1; expects = put w.expects w.next tag }

-- what a field of a card says, by the word that a table has there: a child, and the leaf where a search ended, without
-- their tags
abbrev pub says_by : Field → ℕ → ℕ
says_by L word = (link_in word).node
says_by Left word = (link_in word).node
says_by Right word = (link_in word).node
says_by field word = word

-- what a table has at a field of which a claim has this: a leaf with the tag that the card expects, and a child with tag 0
abbrev pub tagged_for : Field → ℕ → ℕ → ℕ
tagged_for L tag node = linked (record { node = node; tag = tag })
tagged_for Left tag node = linked (record { node = node; tag = 0 })
tagged_for Right tag node = linked (record { node = node; tag = 0 })
tagged_for field tag value = value

-- the words after these words of a table were written to the fields of a card
abbrev pub table_filled : Words → ℕ → List (Field × ℕ) → Words
table_filled w c [] = w
table_filled w c (e ∷ es) = table_filled (table_written w c e.0 e.1) c es

-- the next card is claimed, and these words of a table are written to it
abbrev pub table_claimed : Words → List (Field × ℕ) → Words
table_claimed w filling = record (table_filled w w.next filling) { next = w.next + 1 }
