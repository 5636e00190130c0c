use Rattle.std.proofs.Common.{◌≡◌, ℕ, zero, ◌+◌, ◌≤◌, inl, inr, if◌then◌else◌, List, [], ◌∷◌, length, refl, sym, ap, ◌∙◌, arith}
use Rattle.std.proofs.lemmas.Bool.{cases_eq, eq-eqb, ne_eqb}
use Rattle.std.proofs.lemmas.List.{get_or-append-add, get_or_past, length-map}
use Rattle.std.proofs.Math.Seq.{get_or-append_seam}
use Rattle.std.specs.Map.{keys_of, values_of}
use Rattle.ell_word.specs.Node.{right_leaf, infinity1, infinity2}
use Rattle.ell_layout.specs.declared.field.Field.{Field}
use Rattle.ell_layout.specs.declared.field.Field.TheVariants.{Gp, P, L, Was, Key, Left, Right, Update, LeftLeafKey, RightLeafKey, LeftValue, RightValue}
use Rattle.ell_layout.specs.Cards.{clean}
use Rattle.ell_layout.specs.Branches.{root_branch, left_child}
use Rattle.ell_layout.specs.Start.{start_leaf, start_value, start_field}

-- the fields of card 0 of the opening tree over so many start keys
abbrev pub root_field : ℕ → Field → ℕ
root_field many Key = infinity2
root_field many Left = left_child (root_branch (many + 1))
root_field many Right = right_leaf 0
root_field many Update = clean 0
root_field many LeftLeafKey = infinity1
root_field many RightLeafKey = infinity2
root_field many _ = 0

-- there are as many keys as start pairs
pub keys_length : (start : List (ℕ × ℕ)) → length (keys_of start) ≡ length start
keys_length start = length-map start (λ e. e.0)

module _ (start : List (ℕ × ℕ)) where
  -- behind the start keys come the two above all keys
  pub leaf_last : start_leaf start (length start) ≡ infinity1
  leaf_last = ap (start_leaf start) (sym (keys_length start)) ∙ get_or-append_seam (keys_of start) infinity1 (infinity2 ∷ []) 0

  pub leaf_root : start_leaf start (length start + 1) ≡ infinity2
  leaf_root = ap (λ n. start_leaf start (n + 1)) (sym (keys_length start)) ∙ get_or-append-add (keys_of start) (infinity1 ∷ infinity2 ∷ []) 1 0

  -- and there is no value
  pub value_past : (i : ℕ) → length start ≤ i → start_value start i ≡ 0
  value_past i past = let e = length-map start (λ p. p.1) in get_or_past (values_of start) i 0 (omega arith)

  -- the root's right leaf has the greater one, and its leaves have no value
  zero_more : 0 + (length start + 1) ≡ length start + 1
  zero_more = omega arith

  root_leaf : start_leaf start (0 + (length start + 1)) ≡ infinity2
  root_leaf = ap (start_leaf start) zero_more ∙ leaf_root

  pub root_fields : (field : Field) → start_field start zero field ≡ root_field (length start) field
  root_fields Key = root_leaf
  root_fields Left = refl
  root_fields Right = refl
  root_fields Update = refl
  root_fields LeftLeafKey = refl
  root_fields RightLeafKey = root_leaf
  root_fields LeftValue = elim (cases_eq (length start + 1) 1) [
    | inl one ↦ ap (λ t. if t then start_value start 0 else 0) (eq-eqb (length start + 1) 1 one) ∙ value_past 0 (omega arith)
    | inr more ↦ ap (λ t. if t then start_value start 0 else 0) (ne_eqb (length start + 1) 1 more)
  ]
  root_fields RightValue = value_past (0 + (length start + 1)) (omega arith)
  root_fields Gp = refl
  root_fields P = refl
  root_fields L = refl
  root_fields Was = refl
