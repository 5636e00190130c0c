use Rattle.std.proofs.Common.{◌≡◌, ◌≢◌, ℕ, ◌%◌, Bool, true, false, List, [], ◌∷◌, refl, ◌∙◌}
use Rattle.ell_word.specs.Node.{internal}
use Rattle.ell_layout.specs.declared.field.Field.{Field}
use Rattle.ell_layout.specs.declared.field.Field.TheVariants.{Gp, Left, Right}
use Rattle.ell_layout.specs.Words.{Words, written}
use Rattle.ell_layout.specs.Cards.{filled}
use Rattle.ell_layout.proofs.lemmas.Writes.{side_cases, written_next, written_flat, written_no_key, written_no_value, written_inner_value, written_leaf_child, written_leaf_update}

-- Fields that are written leave the claim word.
pub filled_claim : (w : Words) (c : ℕ) (es : List (Field × ℕ)) → (filled w c es).next ≡ w.next
filled_claim w c [] = refl
filled_claim w c (e ∷ es) = filled_claim (written w c e.0 e.1) c es ∙ written_next w c e.0 e.1

-- Fields that are written leave from where on the tree is flat.
pub filled_flat : (w : Words) (c : ℕ) (es : List (Field × ℕ)) → (filled w c es).flat_from ≡ w.flat_from
filled_flat w c [] = refl
filled_flat w c (e ∷ es) = filled_flat (written w c e.0 e.1) c es ∙ written_flat w c e.0 e.1

-- Fields that are written leave the keys that no node has.
pub filled_no_key : (w : Words) (c : ℕ) (es : List (Field × ℕ)) (x : ℕ) → x % 4 ≡ 3 → (filled w c es).key x ≡ w.key x
filled_no_key w c [] x h = refl
filled_no_key w c (e ∷ es) x h = filled_no_key (written w c e.0 e.1) c es x h ∙ written_no_key w c e.0 e.1 x h

-- Fields that are written leave the values that no node has.
pub filled_no_value : (w : Words) (c : ℕ) (es : List (Field × ℕ)) (x : ℕ) → x % 4 ≡ 3 → (filled w c es).value x ≡ w.value x
filled_no_value w c [] x h = refl
filled_no_value w c (e ∷ es) x h = filled_no_value (written w c e.0 e.1) c es x h ∙ written_no_value w c e.0 e.1 x h

-- Fields that are written leave the values that internal nodes have.
pub filled_inner_value : (w : Words) (c : ℕ) (es : List (Field × ℕ)) (x : ℕ) → x % 4 ≡ 0 → (filled w c es).value x ≡ w.value x
filled_inner_value w c [] x h = refl
filled_inner_value w c (e ∷ es) x h = filled_inner_value (written w c e.0 e.1) c es x h ∙ written_inner_value w c e.0 e.1 x h

-- Fields that are written leave the children that the leaves have.
pub filled_leaf_child : (w : Words) (c : ℕ) (es : List (Field × ℕ)) (x : ℕ) (right : Bool) → x % 4 ≢ 0 → (filled w c es).child x right ≡ w.child x right
filled_leaf_child w c [] x right h = refl
filled_leaf_child w c (e ∷ es) x right h = filled_leaf_child (written w c e.0 e.1) c es x right h ∙ written_leaf_child w c e.0 e.1 x right h

-- Fields that are written leave the update words that the leaves have.
pub filled_leaf_update : (w : Words) (c : ℕ) (es : List (Field × ℕ)) (x : ℕ) → x % 4 ≢ 0 → (filled w c es).update x ≡ w.update x
filled_leaf_update w c [] x h = refl
filled_leaf_update w c (e ∷ es) x h = filled_leaf_update (written w c e.0 e.1) c es x h ∙ written_leaf_update w c e.0 e.1 x h

-- A field that is written leaves the tag that a card expects.
written_expects : (w : Words) (c : ℕ) (field : Field) (v d : ℕ) → (written w c field v).expects d ≡ w.expects d
written_expects w c Gp v d = refl
written_expects w c _ v d = refl

-- Fields that are written leave the tag that a card expects.
pub filled_expects : (w : Words) (c : ℕ) (es : List (Field × ℕ)) (d : ℕ) → (filled w c es).expects d ≡ w.expects d
filled_expects w c [] d = refl
filled_expects w c (e ∷ es) d = filled_expects (written w c e.0 e.1) c es d ∙ written_expects w c e.0 e.1 d

-- Where all tags are 0, a field that is written leaves them.
written_untagged : (w : Words) (c : ℕ) (field : Field) (v : ℕ) → ((x : ℕ) (right : Bool) → w.tag x right ≡ 0)
    → (x : ℕ) (right : Bool) → (written w c field v).tag x right ≡ 0
written_untagged w c Left v h x right = side_cases (λ n. n ≡ 0) w.tag (internal c) false 0 x right refl h
written_untagged w c Right v h x right = side_cases (λ n. n ≡ 0) w.tag (internal c) true 0 x right refl h
written_untagged w c _ v h x right = h x right

-- Where all tags are 0, fields that are written leave them.
pub filled_untagged : (w : Words) (c : ℕ) (es : List (Field × ℕ)) → ((x : ℕ) (right : Bool) → w.tag x right ≡ 0)
    → (x : ℕ) (right : Bool) → (filled w c es).tag x right ≡ 0
filled_untagged w c [] h = h
filled_untagged w c (e ∷ es) h = filled_untagged (written w c e.0 e.1) c es (written_untagged w c e.0 e.1 h)
