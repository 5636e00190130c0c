use Rattle.std.proofs.Common.{◌≡◌, ℕ, ◌%◌, ◌&&◌, ◌||◌, false, if◌then◌else◌, max, min, nat_le, nat_lt, ◌∷◌, [], ap}
use Rattle.std.proofs.lemmas.Bool.{ne_eqb}
use Rattle.ell_layout.specs.declared.field.Field.TheVariants.{P, L, Key, Left, Right, Update, LeftLeafKey, RightLeafKey, LeftValue, RightValue}
use Rattle.ell_word.specs.Node.{left_leaf, right_leaf}
use Rattle.ell_layout.specs.Words.{Words, IsLeaf}
use Rattle.ell_layout.specs.Cards.{clean, insert_filling, put_filling, value_below}

-- At a leaf, with the greater key for its node, an insert's card is filled as in a tree that is not flat.
pub put_filling-leaf : (c k value parent leaf leaf_key leaf_value : ℕ) → IsLeaf leaf
    → put_filling false c k value (max k leaf_key) parent leaf leaf_key leaf_value ≡ insert_filling c k value parent leaf leaf_key leaf_value
put_filling-leaf c k value parent leaf leaf_key leaf_value outer =
    let test = ne_eqb (leaf % 4) 0 outer in
    λ t. (P, parent) ∷ (L, leaf) ∷ (Key, max k leaf_key) ∷ (Left, (if (false || test t) && nat_le leaf_key k then leaf else left_leaf c))
    ∷ (Right, (if (false || test t) && nat_lt k leaf_key then leaf else right_leaf c)) ∷ (Update, clean 0)
    ∷ (LeftLeafKey, min k leaf_key) ∷ (RightLeafKey, max k leaf_key)
    ∷ (LeftValue, (if nat_lt k leaf_key then value else leaf_value))
    ∷ (RightValue, (if nat_lt k leaf_key then leaf_value else value)) ∷ []

-- And the value below it is the leaf's.
pub value_below-leaf : (w : Words) (leaf : ℕ) → IsLeaf leaf → value_below w leaf ≡ w.value leaf
value_below-leaf w leaf outer = ap (λ b. if b then 0 else w.value leaf) (ne_eqb (leaf % 4) 0 outer)
