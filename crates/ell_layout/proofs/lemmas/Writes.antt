use Rattle.std.proofs.Common.{◌≡◌, ◌≢◌, ℕ, zero, suc, ◌+◌, ◌*◌, ◌%◌, ◌<◌, ◌==◌, eq-eqb, ne_eqb, if◌then◌else◌, Bool, true, false, List, [], ◌∷◌, ◌++◌, length, take, get_or, inl, inr, refl, sym, ap, ap₂, ◌||◌, ◌∙◌, arith, subst}
use Rattle.std.proofs.lemmas.Bool.{cases_eq}
use Rattle.std.proofs.lemmas.Bool.Decides.{nat_tests}
use Rattle.std.proofs.lemmas.List.{take_more}
use Rattle.ell_word.specs.Link.{linked, link_in, node_bound}
use Rattle.ell_word.proofs.Numbers.{linked_again, node_is_bound, link_back, same_links}
use Rattle.ell_word.specs.Node.{card, internal, left_leaf, right_leaf, IsNode}
use Rattle.ell_layout.specs.declared.field.Field.{Field}
use Rattle.ell_layout.specs.declared.field.Field.TheVariants.{Gp, P, L, Was, Key, Left, Right, Update, LeftLeafKey, RightLeafKey, LeftValue, RightValue}
use Rattle.ell_layout.specs.Layout.{address}
use Rattle.ell_layout.specs.Cards.{table_filled}
use Rattle.ell_layout.specs.Words.{Words, word, put, put_side, written, table_word, table_written, key_field, value_field, child_field, words_from, table_words, with_child, with_tag}

-- A function with another value at a place has that value there.
pub put_same : {A : Type 0} (f : ℕ → A) (i : ℕ) (v : A) → put f i v i ≡ v
put_same f i v = grind (arith, nat_tests)

-- A function with another value at a place is the same at the other places.
pub put_other : {A : Type 0} (f : ℕ → A) (i : ℕ) (v : A) (j : ℕ) → j ≢ i → put f i v j ≡ f j
put_other f i v j h = grind (arith, nat_tests)

-- What holds of the new value at a place, and of the old ones elsewhere, holds at every place.
pub put_cases : {A : Type 0} (holds : A → Type 0) (f : ℕ → A) (c : ℕ) (v : A) (d : ℕ) → (d ≡ c → holds v) → (d ≢ c → holds (f d)) → holds (put f c v d)
put_cases holds f c v d here elsewhere = elim (cases_eq d c) [
  | inl e ↦ subst holds (sym (ap (put f c v) e ∙ put_same f c v)) (here e)
  | inr n ↦ subst holds (sym (put_other f c v d n)) (elsewhere n)
]

-- Another child on a side is the child on that side.
pub put_side_same : (f : Bool → ℕ) (right : Bool) (v : ℕ) → put_side f right v right ≡ v
put_side_same f true v = refl
put_side_same f false v = refl

-- What a function has for left sides is the same with another value for the right side of a node.
side_left : (f : ℕ → Bool → ℕ) (x y v : ℕ) → put f x (put_side (f x) true v) y false ≡ f y false
side_left f x y v = elim (cases_eq y x) [
  | inl e ↦ ap (λ k. k false) (ap (put f x (put_side (f x) true v)) e ∙ put_same f x (put_side (f x) true v)) ∙ ap (λ n. f n false) (sym e)
  | inr n ↦ ap (λ k. k false) (put_other f x (put_side (f x) true v) y n)
]

-- What a function has for right sides is the same with another value for the left side of a node.
side_right : (f : ℕ → Bool → ℕ) (x y v : ℕ) → put f x (put_side (f x) false v) y true ≡ f y true
side_right f x y v = elim (cases_eq y x) [
  | inl e ↦ ap (λ k. k true) (ap (put f x (put_side (f x) false v)) e ∙ put_same f x (put_side (f x) false v)) ∙ ap (λ n. f n true) (sym e)
  | inr n ↦ ap (λ k. k true) (put_other f x (put_side (f x) false v) y n)
]

-- A function with another value for a side of a node has that value there.
side_here : (f : ℕ → Bool → ℕ) (x : ℕ) (right : Bool) (v : ℕ) → put f x (put_side (f x) right v) x right ≡ v
side_here f x right v = ap (λ k. k right) (put_same f x (put_side (f x) right v)) ∙ put_side_same (f x) right v

-- A function with another value for a side of a node is the same at the other nodes.
side_elsewhere : (f : ℕ → Bool → ℕ) (x : ℕ) (side : Bool) (v y : ℕ) (right : Bool) → y ≢ x → put f x (put_side (f x) side v) y right ≡ f y right
side_elsewhere f x side v y right n = ap (λ k. k right) (put_other f x (put_side (f x) side v) y n)

-- What holds of the new value and of the old ones holds on each side of each node.
pub side_cases : (holds : ℕ → Type 0) (f : ℕ → Bool → ℕ) (x : ℕ) (side : Bool) (v y : ℕ) (right : Bool) → holds v → ((z : ℕ) (r : Bool) → holds (f z r))
    → holds (put f x (put_side (f x) side v) y right)
side_cases holds f x side v y right new old = put_cases (λ k. holds (k right)) f x (put_side (f x) side v) y (λ e. on_side side right) (λ n. old y right)
  where
    on_side : (s r : Bool) → holds (put_side (f x) s v r)
    on_side true true = new
    on_side false false = new
    on_side true false = old x false
    on_side false true = old x true

-- The word that was written is the one that is read there.
pub written_here : (w : Words) (c : ℕ) (field : Field) (v : ℕ) → word (written w c field v) c field ≡ v
written_here w c Gp v = put_same w.gp c v
written_here w c P v = put_same w.p c v
written_here w c L v = put_same w.l c v
written_here w c Was v = put_same w.was c v
written_here w c Key v = put_same w.key (internal c) v
written_here w c Left v = side_here w.child (internal c) false v
written_here w c Right v = side_here w.child (internal c) true v
written_here w c Update v = put_same w.update (internal c) v
written_here w c LeftLeafKey v = put_same w.key (left_leaf c) v
written_here w c RightLeafKey v = put_same w.key (right_leaf c) v
written_here w c LeftValue v = put_same w.value (left_leaf c) v
written_here w c RightValue v = put_same w.value (right_leaf c) v

-- A write leaves the words at the other addresses.
pub written_elsewhere : (w : Words) (c : ℕ) (field : Field) (d : ℕ) (other : Field) (v : ℕ)
    → address c field ≢ address d other → word (written w d other v) c field ≡ word w c field
written_elsewhere w c Gp d Gp v h = put_other w.gp d v c (omega arith)
written_elsewhere w c P d P v h = put_other w.p d v c (omega arith)
written_elsewhere w c L d L v h = put_other w.l d v c (omega arith)
written_elsewhere w c Was d Was v h = put_other w.was d v c (omega arith)
written_elsewhere w c Key d Key v h = put_other w.key (internal d) v (internal c) (omega arith)
written_elsewhere w c Key d LeftLeafKey v h = put_other w.key (left_leaf d) v (internal c) (omega arith)
written_elsewhere w c Key d RightLeafKey v h = put_other w.key (right_leaf d) v (internal c) (omega arith)
written_elsewhere w c LeftLeafKey d Key v h = put_other w.key (internal d) v (left_leaf c) (omega arith)
written_elsewhere w c LeftLeafKey d LeftLeafKey v h = put_other w.key (left_leaf d) v (left_leaf c) (omega arith)
written_elsewhere w c LeftLeafKey d RightLeafKey v h = put_other w.key (right_leaf d) v (left_leaf c) (omega arith)
written_elsewhere w c RightLeafKey d Key v h = put_other w.key (internal d) v (right_leaf c) (omega arith)
written_elsewhere w c RightLeafKey d LeftLeafKey v h = put_other w.key (left_leaf d) v (right_leaf c) (omega arith)
written_elsewhere w c RightLeafKey d RightLeafKey v h = put_other w.key (right_leaf d) v (right_leaf c) (omega arith)
written_elsewhere w c LeftValue d LeftValue v h = put_other w.value (left_leaf d) v (left_leaf c) (omega arith)
written_elsewhere w c LeftValue d RightValue v h = put_other w.value (right_leaf d) v (left_leaf c) (omega arith)
written_elsewhere w c RightValue d LeftValue v h = put_other w.value (left_leaf d) v (right_leaf c) (omega arith)
written_elsewhere w c RightValue d RightValue v h = put_other w.value (right_leaf d) v (right_leaf c) (omega arith)
written_elsewhere w c Left d Left v h = side_elsewhere w.child (internal d) false v (internal c) false (omega arith)
written_elsewhere w c Left d Right v h = side_left w.child (internal d) (internal c) v
written_elsewhere w c Right d Left v h = side_right w.child (internal d) (internal c) v
written_elsewhere w c Right d Right v h = side_elsewhere w.child (internal d) true v (internal c) true (omega arith)
written_elsewhere w c Update d Update v h = put_other w.update (internal d) v (internal c) (omega arith)
written_elsewhere w c Gp d _ v h = refl
written_elsewhere w c P d _ v h = refl
written_elsewhere w c L d _ v h = refl
written_elsewhere w c Was d _ v h = refl
written_elsewhere w c Key d _ v h = refl
written_elsewhere w c LeftLeafKey d _ v h = refl
written_elsewhere w c RightLeafKey d _ v h = refl
written_elsewhere w c LeftValue d _ v h = refl
written_elsewhere w c RightValue d _ v h = refl
written_elsewhere w c Left d _ v h = refl
written_elsewhere w c Right d _ v h = refl
written_elsewhere w c Update d _ v h = refl

-- A write leaves the claim word.
pub written_next : (w : Words) (c : ℕ) (field : Field) (v : ℕ) → (written w c field v).next ≡ w.next
written_next w c Gp v = refl
written_next w c P v = refl
written_next w c L v = refl
written_next w c Was v = refl
written_next w c Key v = refl
written_next w c Left v = refl
written_next w c Right v = refl
written_next w c Update v = refl
written_next w c LeftLeafKey v = refl
written_next w c RightLeafKey v = refl
written_next w c LeftValue v = refl
written_next w c RightValue v = refl

-- A write leaves from where on the tree is flat.
pub written_flat : (w : Words) (c : ℕ) (field : Field) (v : ℕ) → (written w c field v).flat_from ≡ w.flat_from
written_flat w c Gp v = refl
written_flat w c _ v = refl

-- A write leaves the children that the leaves have.
pub written_leaf_child : (w : Words) (c : ℕ) (field : Field) (v x : ℕ) (right : Bool) → x % 4 ≢ 0
    → (written w c field v).child x right ≡ w.child x right
written_leaf_child w c Left v x right h = side_elsewhere w.child (internal c) false v x right (omega arith)
written_leaf_child w c Right v x right h = side_elsewhere w.child (internal c) true v x right (omega arith)
written_leaf_child w c _ v x right h = refl

-- A write leaves the keys that no node has.
pub written_no_key : (w : Words) (c : ℕ) (field : Field) (v x : ℕ) → x % 4 ≡ 3 → (written w c field v).key x ≡ w.key x
written_no_key w c Key v x h = put_other w.key (internal c) v x (omega arith)
written_no_key w c LeftLeafKey v x h = put_other w.key (left_leaf c) v x (omega arith)
written_no_key w c RightLeafKey v x h = put_other w.key (right_leaf c) v x (omega arith)
written_no_key w c _ v x h = refl

-- A write leaves the values that no node has.
pub written_no_value : (w : Words) (c : ℕ) (field : Field) (v x : ℕ) → x % 4 ≡ 3 → (written w c field v).value x ≡ w.value x
written_no_value w c LeftValue v x h = put_other w.value (left_leaf c) v x (omega arith)
written_no_value w c RightValue v x h = put_other w.value (right_leaf c) v x (omega arith)
written_no_value w c _ v x h = refl

-- A write leaves the values that internal nodes have.
pub written_inner_value : (w : Words) (c : ℕ) (field : Field) (v x : ℕ) → x % 4 ≡ 0
    → (written w c field v).value x ≡ w.value x
written_inner_value w c LeftValue v x h = put_other w.value (left_leaf c) v x (omega arith)
written_inner_value w c RightValue v x h = put_other w.value (right_leaf c) v x (omega arith)
written_inner_value w c _ v x h = refl

-- A write leaves the update words that the leaves have.
pub written_leaf_update : (w : Words) (c : ℕ) (field : Field) (v x : ℕ) → x % 4 ≢ 0
    → (written w c field v).update x ≡ w.update x
written_leaf_update w c Update v x h = put_other w.update (internal c) v x (omega arith)
written_leaf_update w c _ v x h = refl

-- The key of a node, by the remainder of its number.
key_by_remainder : (w : Words) (x c r : ℕ) → r < 3 → x ≡ 4 * c + r → w.key x ≡ word w c (key_field r)
key_by_remainder w x c zero h e = let i : x ≡ internal c = omega arith in ap w.key i
key_by_remainder w x c (suc zero) h e = let i : x ≡ left_leaf c = omega arith in ap w.key i
key_by_remainder w x c (suc (suc zero)) h e = let i : x ≡ right_leaf c = omega arith in ap w.key i
key_by_remainder w x c (suc (suc (suc r))) h e = absurd (omega arith)

-- The key of a node is a word of its card.
pub key_at_node : (w : Words) (x : ℕ) → IsNode x → w.key x ≡ word w (card x) (key_field (x % 4))
key_at_node w x node = key_by_remainder w x (card x) (x % 4) (omega (arith, node)) (omega arith)

-- The value of a leaf, by the remainder of its number.
value_by_remainder : (w : Words) (x c r : ℕ) → r < 3 → r ≢ 0 → x ≡ 4 * c + r → w.value x ≡ word w c (value_field r)
value_by_remainder w x c zero h n e = absurd (n refl)
value_by_remainder w x c (suc zero) h n e = let i : x ≡ left_leaf c = omega arith in ap w.value i
value_by_remainder w x c (suc (suc zero)) h n e = let i : x ≡ right_leaf c = omega arith in ap w.value i
value_by_remainder w x c (suc (suc (suc r))) h n e = absurd (omega arith)

-- The value of a leaf is a word of its card.
pub value_at_leaf : (w : Words) (x : ℕ) → IsNode x → x % 4 ≢ 0 → w.value x ≡ word w (card x) (value_field (x % 4))
value_at_leaf w x node n = value_by_remainder w x (card x) (x % 4) (omega (arith, node)) n (omega arith)

-- An internal node is the internal node of its card.
pub internal_at_node : (x : ℕ) → x % 4 ≡ 0 → x ≡ internal (card x)
internal_at_node x h = omega arith

-- The child of an internal node is a word of its card.
pub child_at_node : (w : Words) (x : ℕ) (right : Bool) → x % 4 ≡ 0 → w.child x right ≡ word w (card x) (child_field right)
child_at_node w x true h = ap (λ n. w.child n true) (internal_at_node x h)
child_at_node w x false h = ap (λ n. w.child n false) (internal_at_node x h)

-- The update word of an internal node is a word of its card.
pub update_at_node : (w : Words) (x : ℕ) → x % 4 ≡ 0 → w.update x ≡ word w (card x) Update
update_at_node w x h = ap w.update (internal_at_node x h)

-- The word that a table has at a child of an internal node links the child with its tag.
pub child_word_at_node : (w : Words) (x : ℕ) (right : Bool) → x % 4 ≡ 0
    → table_word w (card x) (child_field right) ≡ linked (record { node = w.child x right; tag = w.tag x right })
child_word_at_node w x true h = ap (λ n. linked (record { node = w.child n true; tag = w.tag n true })) (sym (internal_at_node x h))
child_word_at_node w x false h = ap (λ n. linked (record { node = w.child n false; tag = w.tag n false })) (sym (internal_at_node x h))

-- What a field says when a table has this word there.
abbrev pub node_in : Field → ℕ → ℕ
node_in L v = (link_in v).node
node_in Left v = (link_in v).node
node_in Right v = (link_in v).node
node_in _ v = v

-- A write of a table's word writes what the word says, and a tag.
table_written_is : (w : Words) (c : ℕ) (field : Field) (v : ℕ)
    → table_written w c field v ≡ record (written w c field (node_in field v)) { expects = (table_written w c field v).expects; tag = (table_written w c field v).tag }
table_written_is w c L v = refl
table_written_is w c _ v = refl

-- Other tags leave what the fields say.
other_tags : (w : Words) (expects : ℕ → ℕ) (tag : ℕ → Bool → ℕ) (c : ℕ) (field : Field)
    → word (record w { expects = expects; tag = tag }) c field ≡ word w c field
other_tags w expects tag c L = refl
other_tags w expects tag c _ = refl

-- After a write of a table's word each field says what it says after a write of what the word says.
pub table_written_word : (w : Words) (d : ℕ) (other : Field) (v c : ℕ) (field : Field)
    → word (table_written w d other v) c field ≡ word (written w d other (node_in other v)) c field
table_written_word w d other v c field =
    ap {B = ℕ} (λ k. word k c field) (table_written_is w d other v)
    ∙ other_tags (written w d other (node_in other v)) (table_written w d other v).expects (table_written w d other v).tag c field

-- The word of a table that was written is the one that is read there.
pub table_written_here : (w : Words) (c : ℕ) (field : Field) (v : ℕ) → table_word (table_written w c field v) c field ≡ v
table_written_here w c L v =
    ap₂ (λ n t. linked (record { node = n; tag = t })) (put_same w.l c (link_in v).node) (put_same w.expects c (link_in v).tag) ∙ linked_again v
table_written_here w c Left v =
    ap₂ (λ n t. linked (record { node = n; tag = t })) (side_here w.child (internal c) false (link_in v).node) (side_here w.tag (internal c) false (link_in v).tag) ∙ linked_again v
table_written_here w c Right v =
    ap₂ (λ n t. linked (record { node = n; tag = t })) (side_here w.child (internal c) true (link_in v).node) (side_here w.tag (internal c) true (link_in v).tag) ∙ linked_again v
table_written_here w c field v = written_here w c field v

-- A write of a table's word leaves the words at the other addresses.
pub table_written_elsewhere : (w : Words) (c : ℕ) (field : Field) (d : ℕ) (other : Field) (v : ℕ)
    → address c field ≢ address d other → table_word (table_written w d other v) c field ≡ table_word w c field
table_written_elsewhere w c L d L v h =
    ap₂ (λ n t. linked (record { node = n; tag = t })) (put_other w.l d (link_in v).node c (omega arith)) (put_other w.expects d (link_in v).tag c (omega arith))
table_written_elsewhere w c L d _ v h = refl
table_written_elsewhere w c Left d Left v h =
    ap₂ (λ n t. linked (record { node = n; tag = t })) (side_elsewhere w.child (internal d) false (link_in v).node (internal c) false (omega arith))
    (side_elsewhere w.tag (internal d) false (link_in v).tag (internal c) false (omega arith))
table_written_elsewhere w c Left d Right v h =
    ap₂ (λ n t. linked (record { node = n; tag = t })) (side_left w.child (internal d) (internal c) (link_in v).node) (side_left w.tag (internal d) (internal c) (link_in v).tag)
table_written_elsewhere w c Left d _ v h = refl
table_written_elsewhere w c Right d Right v h =
    ap₂ (λ n t. linked (record { node = n; tag = t })) (side_elsewhere w.child (internal d) true (link_in v).node (internal c) true (omega arith))
    (side_elsewhere w.tag (internal d) true (link_in v).tag (internal c) true (omega arith))
table_written_elsewhere w c Right d Left v h =
    ap₂ (λ n t. linked (record { node = n; tag = t })) (side_right w.child (internal d) (internal c) (link_in v).node) (side_right w.tag (internal d) (internal c) (link_in v).tag)
table_written_elsewhere w c Right d _ v h = refl
table_written_elsewhere w c field d other v h =
    table_written_word w d other v c field ∙ written_elsewhere w c field d other (node_in other v) h

-- A write of a table's word leaves the claim word.
pub table_written_next : (w : Words) (c : ℕ) (field : Field) (v : ℕ) → (table_written w c field v).next ≡ w.next
table_written_next w c field v = ap (λ k. k.next) (table_written_is w c field v) ∙ written_next w c field (node_in field v)

-- A write of a table's word leaves from where on the tree is flat.
pub table_written_flat : (w : Words) (c : ℕ) (field : Field) (v : ℕ) → (table_written w c field v).flat_from ≡ w.flat_from
table_written_flat w c field v = ap (λ k. k.flat_from) (table_written_is w c field v) ∙ written_flat w c field (node_in field v)

-- A write of a table's word leaves the keys that no node has.
pub table_written_no_key : (w : Words) (c : ℕ) (field : Field) (v x : ℕ) → x % 4 ≡ 3 → (table_written w c field v).key x ≡ w.key x
table_written_no_key w c field v x h = ap (λ k. k.key x) (table_written_is w c field v) ∙ written_no_key w c field (node_in field v) x h

-- A write of a table's word leaves the values that no node has.
pub table_written_no_value : (w : Words) (c : ℕ) (field : Field) (v x : ℕ) → x % 4 ≡ 3 → (table_written w c field v).value x ≡ w.value x
table_written_no_value w c field v x h = ap (λ k. k.value x) (table_written_is w c field v) ∙ written_no_value w c field (node_in field v) x h

-- A write of a table's word leaves the values that internal nodes have.
pub table_written_inner_value : (w : Words) (c : ℕ) (field : Field) (v x : ℕ) → x % 4 ≡ 0
    → (table_written w c field v).value x ≡ w.value x
table_written_inner_value w c field v x h =
    ap (λ k. k.value x) (table_written_is w c field v) ∙ written_inner_value w c field (node_in field v) x h

-- A write of a table's word leaves the children that the leaves have.
pub table_written_leaf_child : (w : Words) (c : ℕ) (field : Field) (v x : ℕ) (right : Bool) → x % 4 ≢ 0
    → (table_written w c field v).child x right ≡ w.child x right
table_written_leaf_child w c field v x right h =
    ap (λ k. k.child x right) (table_written_is w c field v) ∙ written_leaf_child w c field (node_in field v) x right h

-- A write of a table's word leaves the tags that the leaves have.
pub table_written_leaf_tag : (w : Words) (c : ℕ) (field : Field) (v x : ℕ) (right : Bool) → x % 4 ≢ 0
    → (table_written w c field v).tag x right ≡ w.tag x right
table_written_leaf_tag w c Left v x right h = side_elsewhere w.tag (internal c) false (link_in v).tag x right (omega arith)
table_written_leaf_tag w c Right v x right h = side_elsewhere w.tag (internal c) true (link_in v).tag x right (omega arith)
table_written_leaf_tag w c _ v x right h = refl

-- A write of a table's word leaves the update words that the leaves have.
pub table_written_leaf_update : (w : Words) (c : ℕ) (field : Field) (v x : ℕ) → x % 4 ≢ 0
    → (table_written w c field v).update x ≡ w.update x
table_written_leaf_update w c field v x h =
    ap (λ k. k.update x) (table_written_is w c field v) ∙ written_leaf_update w c field (node_in field v) x h

-- One more word at the end is written last.
table_filled_more : (w : Words) (c : ℕ) (es : List (Field × ℕ)) (e : Field × ℕ) → table_filled w c (es ++ e ∷ []) ≡ table_written (table_filled w c es) c e.0 e.1
table_filled_more w c [] e = refl
table_filled_more w c (x ∷ es) e = table_filled_more (table_written w c x.0 x.1) c es e

-- After the first words of a list, a write of the next one gives the words with one more of them.
pub table_filled_next : (w before after : Words) (c : ℕ) (es : List (Field × ℕ)) (i : ℕ) (d : Field × ℕ) → before ≡ table_filled w c (take i es)
    → i < length es → after ≡ table_written before c (get_or es i d).0 (get_or es i d).1 → after ≡ table_filled w c (take (i + 1) es)
table_filled_next w before after c es i d e h g =
    g ∙ (ap (λ z. table_written z c (get_or es i d).0 (get_or es i d).1) e
    ∙ sym (ap (table_filled w c) (take_more es i d h) ∙ table_filled_more w c (take i es) (get_or es i d)))

-- Words whose nodes are below the bound.
pub record SmallNodes (w : Words) : Type 0 where
  pub l : (c : ℕ) → w.l c < node_bound
  pub child : (x : ℕ) (right : Bool) → w.child x right < node_bound

-- Nodes are below the bound after a write of a table's word, if they did before.
pub table_written_small : (w : Words) (c : ℕ) (field : Field) (v : ℕ) → SmallNodes w → SmallNodes (table_written w c field v)
table_written_small w c L v h = record {
  l = λ d. put_cases (λ n. n < node_bound) w.l c (link_in v).node d (λ e. node_is_bound v) (λ n. h.l d);
  child = h.child;
}
table_written_small w c Left v h = record {
  l = h.l;
  child = λ x right. side_cases (λ n. n < node_bound) w.child (internal c) false (link_in v).node x right (node_is_bound v) h.child;
}
table_written_small w c Right v h = record {
  l = h.l;
  child = λ x right. side_cases (λ n. n < node_bound) w.child (internal c) true (link_in v).node x right (node_is_bound v) h.child;
}
table_written_small w c _ v h = record { l = h.l; child = h.child }

-- What makes two machines' words equal: the claim word, the word that says from where on the tree is flat, each field of
-- each card, the tags, and what stands in no field.
pub record SameWords (a b : Words) : Type 0 where
  pub next : a.next ≡ b.next
  pub flat_from : a.flat_from ≡ b.flat_from
  pub word : (c : ℕ) (field : Field) → word a c field ≡ word b c field
  pub expects : (c : ℕ) → a.expects c ≡ b.expects c
  pub tag : (x : ℕ) (right : Bool) → a.tag x right ≡ b.tag x right
  pub no_key : (x : ℕ) → x % 4 ≡ 3 → a.key x ≡ b.key x
  pub no_value : (x : ℕ) → x % 4 ≡ 3 → a.value x ≡ b.value x
  pub value : (x : ℕ) → x % 4 ≡ 0 → a.value x ≡ b.value x
  pub child : (x : ℕ) (right : Bool) → x % 4 ≢ 0 → a.child x right ≡ b.child x right
  pub update : (x : ℕ) → x % 4 ≢ 0 → a.update x ≡ b.update x

module _ (a b : Words) (h : SameWords a b) where
  -- Then the keys of a node are the same.
  same_key : (x : ℕ) → a.key x ≡ b.key x
  same_key x = elim (cases_eq (x % 4) 3) [
    | inl e ↦ h.no_key x e
    | inr node ↦ key_at_node a x node ∙ (h.word (card x) (key_field (x % 4)) ∙ sym (key_at_node b x node))
  ]

  -- Then the values of a leaf are the same.
  same_value : (x : ℕ) → a.value x ≡ b.value x
  same_value x = elim (cases_eq (x % 4) 0) [
    | inl e ↦ h.value x e
    | inr n ↦ at_leaf n
  ]
    where
      at_leaf : x % 4 ≢ 0 → a.value x ≡ b.value x
      at_leaf n = elim (cases_eq (x % 4) 3) [
        | inl e ↦ h.no_value x e
        | inr node ↦ value_at_leaf a x node n ∙ (h.word (card x) (value_field (x % 4)) ∙ sym (value_at_leaf b x node n))
      ]

  -- Then the children of a node are the same.
  same_child : (x : ℕ) (right : Bool) → a.child x right ≡ b.child x right
  same_child x right = elim (cases_eq (x % 4) 0) [
    | inl e ↦ child_at_node a x right e ∙ (h.word (card x) (child_field right) ∙ sym (child_at_node b x right e))
    | inr n ↦ h.child x right n
  ]

  -- Then the update words of a node are the same.
  same_update : (x : ℕ) → a.update x ≡ b.update x
  same_update x = elim (cases_eq (x % 4) 0) [
    | inl e ↦ update_at_node a x e ∙ (h.word (card x) Update ∙ sym (update_at_node b x e))
    | inr n ↦ h.update x n
  ]

  -- Words that are the same everywhere are equal.
  pub equal_words : a ≡ b
  equal_words = λ t. record {
    next = h.next t;
    gp = λ c. h.word c Gp t;
    p = λ c. h.word c P t;
    l = λ c. h.word c L t;
    expects = λ c. h.expects c t;
    was = λ c. h.word c Was t;
    key = λ x. same_key x t;
    value = λ x. same_value x t;
    child = λ x right. same_child x right t;
    tag = λ x right. h.tag x right t;
    update = λ x. same_update x t;
    flat_from = h.flat_from t;
  }

-- What makes two machines' words equal where nodes are below the bound: the claim word, the word that says from where on the
-- tree is flat, the word that a table has at each field of each card, and what stands in no field.
pub record SameTables (a b : Words) : Type 0 where
  pub small : SmallNodes a
  pub other_small : SmallNodes b
  pub next : a.next ≡ b.next
  pub flat_from : a.flat_from ≡ b.flat_from
  pub word : (c : ℕ) (field : Field) → table_word a c field ≡ table_word b c field
  pub no_key : (x : ℕ) → x % 4 ≡ 3 → a.key x ≡ b.key x
  pub no_value : (x : ℕ) → x % 4 ≡ 3 → a.value x ≡ b.value x
  pub value : (x : ℕ) → x % 4 ≡ 0 → a.value x ≡ b.value x
  pub child : (x : ℕ) (right : Bool) → x % 4 ≢ 0 → a.child x right ≡ b.child x right
  pub tag : (x : ℕ) (right : Bool) → x % 4 ≢ 0 → a.tag x right ≡ b.tag x right
  pub update : (x : ℕ) → x % 4 ≢ 0 → a.update x ≡ b.update x

module _ (a b : Words) (h : SameTables a b) where
  -- Then their cards' leaves and the tags that they expect are the same.
  same_leaf : (c : ℕ) → (a.l c ≡ b.l c) × (a.expects c ≡ b.expects c)
  same_leaf c = same_links (a.l c) (a.expects c) (b.l c) (b.expects c) (h.small.l c) (h.other_small.l c) (h.word c L)

  -- The children of an internal node and their tags are the same.
  same_linked_child : (x : ℕ) (right : Bool) → x % 4 ≡ 0 → (a.child x right ≡ b.child x right) × (a.tag x right ≡ b.tag x right)
  same_linked_child x right e = same_links (a.child x right) (a.tag x right) (b.child x right) (b.tag x right) (h.small.child x right) (h.other_small.child x right)
      (sym (child_word_at_node a x right e) ∙ (h.word (card x) (child_field right) ∙ child_word_at_node b x right e))

  -- The tags of all nodes are the same.
  same_tag : (x : ℕ) (right : Bool) → a.tag x right ≡ b.tag x right
  same_tag x right = elim (cases_eq (x % 4) 0) [
    | inl e ↦ (same_linked_child x right e).1
    | inr n ↦ h.tag x right n
  ]

  -- Each field says the same.
  same_word : (c : ℕ) (field : Field) → word a c field ≡ word b c field
  same_word c L = (same_leaf c).0
  same_word c Left = (same_linked_child (internal c) false (omega arith)).0
  same_word c Right = (same_linked_child (internal c) true (omega arith)).0
  same_word c field = h.word c field

  -- Words that are the same everywhere in a table are equal.
  pub equal_tables : a ≡ b
  equal_tables = equal_words a b record {
    next = h.next;
    flat_from = h.flat_from;
    word = same_word;
    expects = λ c. (same_leaf c).1;
    tag = same_tag;
    no_key = h.no_key;
    no_value = h.no_value;
    value = h.value;
    child = h.child;
    update = h.update;
  }

-- The value of a function at a node's card and key field, by the card and the remainder.
made_key : (at : ℕ → Field → ℕ) (x c r : ℕ) → card x ≡ c → x % 4 ≡ r → r ≢ 3
    → (if x % 4 == 3 then 0 else at (card x) (key_field (x % 4))) ≡ at c (key_field r)
made_key at x c r e f n = ap (λ t. if t then 0 else at (card x) (key_field (x % 4))) (ap (λ k. k == 3) f ∙ ne_eqb r 3 n)
    ∙ λ t. at (e t) (key_field (f t))

-- The value of a function at a leaf's card and value field, by the card and the remainder.
made_leaf : (at : ℕ → Field → ℕ) (x c r : ℕ) → card x ≡ c → x % 4 ≡ r → r ≢ 0 → r ≢ 3
    → (if x % 4 == 0 || x % 4 == 3 then 0 else at (card x) (value_field (x % 4))) ≡ at c (value_field r)
made_leaf at x c r e f n m = ap (λ t. if t then 0 else at (card x) (value_field (x % 4)))
    (ap (λ k. k == 0 || k == 3) f ∙ ap₂ (λ p q. p || q) (ne_eqb r 0 n) (ne_eqb r 3 m))
    ∙ λ t. at (e t) (value_field (f t))

-- What only internal nodes have, at an internal node.
at_internal : (x v : ℕ) → x % 4 ≡ 0 → (if x % 4 == 0 then v else 0) ≡ v
at_internal x v h = grind (arith, nat_tests)

-- What only internal nodes have is 0 at a leaf.
at_leaf : (x v : ℕ) → x % 4 ≢ 0 → (if x % 4 == 0 then v else 0) ≡ 0
at_leaf x v h = grind (arith, nat_tests)

-- The number of a card's internal node is a multiple of four.
is_internal_of : (c : ℕ) → internal c % 4 ≡ 0
is_internal_of c = omega arith

-- A card's internal node stands on that card.
card_of_internal : (c : ℕ) → card (internal c) ≡ c
card_of_internal c = omega arith

-- The words that are made of a function have its values.
pub made_word : (next : ℕ) (at : ℕ → Field → ℕ) (c : ℕ) (field : Field) → word (words_from next at) c field ≡ at c field
made_word next at c Gp = refl
made_word next at c P = refl
made_word next at c L = refl
made_word next at c Was = refl
made_word next at c Key = made_key at (internal c) c 0 (omega arith) (omega arith) (omega arith)
made_word next at c LeftLeafKey = made_key at (left_leaf c) c 1 (omega arith) (omega arith) (omega arith)
made_word next at c RightLeafKey = made_key at (right_leaf c) c 2 (omega arith) (omega arith) (omega arith)
made_word next at c LeftValue = made_leaf at (left_leaf c) c 1 (omega arith) (omega arith) (omega arith) (omega arith)
made_word next at c RightValue = made_leaf at (right_leaf c) c 2 (omega arith) (omega arith) (omega arith) (omega arith)
made_word next at c Left = at_internal (internal c) _ (is_internal_of c) ∙ ap (λ d. at d Left) (card_of_internal c)
made_word next at c Right = at_internal (internal c) _ (is_internal_of c) ∙ ap (λ d. at d Right) (card_of_internal c)
made_word next at c Update = at_internal (internal c) _ (is_internal_of c) ∙ ap (λ d. at d Update) (card_of_internal c)

-- The words that are made of a function give an internal node no value.
pub made_inner_value : (next : ℕ) (at : ℕ → Field → ℕ) (x : ℕ) → x % 4 ≡ 0 → (words_from next at).value x ≡ 0
made_inner_value next at x h = ap (λ t. if t || x % 4 == 3 then 0 else at (card x) (value_field (x % 4))) (eq-eqb (x % 4) 0 h)

-- The words that are made of a function give what is no node no key.
pub made_no_key : (next : ℕ) (at : ℕ → Field → ℕ) (x : ℕ) → x % 4 ≡ 3 → (words_from next at).key x ≡ 0
made_no_key next at x h = ap (λ t. if t then 0 else at (card x) (key_field (x % 4))) (eq-eqb (x % 4) 3 h)

-- The words that are made of a function give what is no node no value.
pub made_no_value : (next : ℕ) (at : ℕ → Field → ℕ) (x : ℕ) → x % 4 ≡ 3 → (words_from next at).value x ≡ 0
made_no_value next at x h = ap (λ k. if k == 0 || k == 3 then 0 else at (card x) (value_field (x % 4))) h

-- The words that are made of a function give a leaf no child.
pub made_leaf_child : (next : ℕ) (at : ℕ → Field → ℕ) (x : ℕ) (right : Bool) → x % 4 ≢ 0 → (words_from next at).child x right ≡ 0
made_leaf_child next at x right h = at_leaf x _ h

-- The words that are made of a function give a leaf no update word.
pub made_leaf_update : (next : ℕ) (at : ℕ → Field → ℕ) (x : ℕ) → x % 4 ≢ 0 → (words_from next at).update x ≡ 0
made_leaf_update next at x h = at_leaf x _ h

-- The words of a table that are made of a function have its values.
pub made_table_word : (next : ℕ) (at : ℕ → Field → ℕ) (c : ℕ) (field : Field) → table_word (table_words next at) c field ≡ at c field
made_table_word next at c L = linked_again (at c L)
made_table_word next at c Left =
    ap₂ (λ n t. linked (record { node = n; tag = t })) (at_internal (internal c) _ (is_internal_of c)) (at_internal (internal c) _ (is_internal_of c))
    ∙ (linked_again _ ∙ ap (λ d. at d Left) (card_of_internal c))
made_table_word next at c Right =
    ap₂ (λ n t. linked (record { node = n; tag = t })) (at_internal (internal c) _ (is_internal_of c)) (at_internal (internal c) _ (is_internal_of c))
    ∙ (linked_again _ ∙ ap (λ d. at d Right) (card_of_internal c))
made_table_word next at c field = made_word next at c field

-- What only internal nodes have is small if it is small there.
small_at : (x v : ℕ) → v < node_bound → (if x % 4 == 0 then v else 0) < node_bound
small_at x v h = elim (cases_eq (x % 4) 0) [
  | inl e ↦ subst (λ n. n < node_bound) (sym (at_internal x v e)) h
  | inr n ↦ subst (λ n. n < node_bound) (sym (at_leaf x v n)) (omega arith)
]

-- The nodes of the words of a table are below the bound.
pub made_small : (next : ℕ) (at : ℕ → Field → ℕ) → SmallNodes (table_words next at)
made_small next at = record {
  l = λ c. node_is_bound (at c L);
  child = λ x right. small_at x _ (node_is_bound (at (card x) (child_field right)));
}

-- The words of a table give a leaf no child.
pub made_table_leaf_child : (next : ℕ) (at : ℕ → Field → ℕ) (x : ℕ) (right : Bool) → x % 4 ≢ 0 → (table_words next at).child x right ≡ 0
made_table_leaf_child next at x right h = at_leaf x _ h

-- The words of a table give a leaf's child no tag.
pub made_table_leaf_tag : (next : ℕ) (at : ℕ → Field → ℕ) (x : ℕ) (right : Bool) → x % 4 ≢ 0 → (table_words next at).tag x right ≡ 0
made_table_leaf_tag next at x right h = at_leaf x _ h

-- What is the same at internal nodes and elsewhere.
same_at : (x v : ℕ) → (if x % 4 == 0 then v else v) ≡ v
same_at x v = grind (arith, nat_tests)

-- Zeros are read without tags.
pub zeros_are_read : (next : ℕ) → table_words next (λ c field. 0) ≡ words_from next (λ c field. 0)
zeros_are_read next = λ t. record (words_from next (λ c field. 0)) { tag = λ x right. same_at x 0 t }

-- A write of a child word of an internal node to its card is one of the child and its tag.
pub child_written : (w : Words) (node : ℕ) (right : Bool) (child tag : ℕ) → child < node_bound → node % 4 ≡ 0
    → table_written w (card node) (child_field right) (linked (record { node = child; tag = tag }))
    ≡ with_tag (with_child w node right child) node right tag
child_written w node true child tag small inner =
    let at = sym (internal_at_node node inner) in
    let back = link_back child tag small in
    λ t. with_tag (with_child w (at t) true (back t).node) (at t) true (back t).tag
child_written w node false child tag small inner =
    let at = sym (internal_at_node node inner) in
    let back = link_back child tag small in
    λ t. with_tag (with_child w (at t) false (back t).node) (at t) false (back t).tag

-- The key of a node has no tag in a table.
pub key_in_table : (w : Words) (c n : ℕ) → word w c (key_field n) ≡ table_word w c (key_field n)
key_in_table w c zero = refl
key_in_table w c (suc zero) = refl
key_in_table w c (suc (suc n)) = refl

-- Nor has the value of a leaf.
pub value_in_table : (w : Words) (c n : ℕ) → word w c (value_field n) ≡ table_word w c (value_field n)
value_in_table w c zero = refl
value_in_table w c (suc zero) = refl
value_in_table w c (suc (suc n)) = refl
