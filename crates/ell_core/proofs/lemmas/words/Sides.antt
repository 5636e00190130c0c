use Rattle.std.proofs.Common.{◌≡◌, ℕ, ◌==◌, ◌<◌, ◌≤◌, ◌⊎◌, if◌then◌else◌, min, max, nat_le, inl, inr, Bool, true, false, refl, sym, ap, ◌∙◌, subst, arith}
use Rattle.std.proofs.lemmas.Bool.{cases_eq, eq-eqb, ne_eqb}
use Rattle.std.proofs.lemmas.Bool.Decides.{nat_tests}
use Rattle.ell_word.specs.Node.{internal, left_leaf, right_leaf}
use Rattle.ell_layout.specs.Words.{Words}
use Rattle.ell_layout.specs.Cards.{is_right, is_delete_card, card_key, card_value, sibling}
use Rattle.ell_core.specs.tree.Flat.{IsNodeKey}
use Rattle.ell_core.specs.history.Stages.{Stages}
use Rattle.ell_core.specs.history.Invariant.{insert_key, insert_value, delete_key, insert_side, InsertCard}

-- a delete's value: that of its leaf
abbrev pub delete_value : Words → ℕ → ℕ
delete_value w c = w.value (w.l c)

-- an insert's key by the three keys that it depends on
abbrev pub key_of_three : ℕ → ℕ → ℕ → ℕ
key_of_three left right leaf = if left == leaf then right else left

-- the own key of a card that counts as an insert's
pub card_key-insert : (w : Words) (c : ℕ) → is_delete_card w c ≡ false → card_key w c ≡ insert_key w c
card_key-insert w c h = ap (λ b. if b then w.key (w.l c) else insert_key w c) h

-- and its value
pub card_value-insert : (w : Words) (c : ℕ) → is_delete_card w c ≡ false → card_value w c ≡ insert_value w c
card_value-insert w c h = ap (λ b. if b then w.value (w.l c) else insert_value w c) h

-- the own key of a card that counts as a delete's
pub card_key-delete : (w : Words) (c : ℕ) → is_delete_card w c ≡ true → card_key w c ≡ delete_key w c
card_key-delete w c h = ap (λ b. if b then w.key (w.l c) else insert_key w c) h

-- and its value
pub card_value-delete : (w : Words) (c : ℕ) → is_delete_card w c ≡ true → card_value w c ≡ delete_value w c
card_value-delete w c h = ap (λ b. if b then w.value (w.l c) else insert_value w c) h

-- an insert's key, where the left leaf is the copy
pub insert_key-right : (w : Words) (c : ℕ) → w.key (left_leaf c) ≡ w.key (w.l c) → insert_key w c ≡ w.key (right_leaf c)
insert_key-right w c h = ap (λ b. if b then w.key (right_leaf c) else w.key (left_leaf c)) (eq-eqb (w.key (left_leaf c)) (w.key (w.l c)) h)

-- the lesser and the greater of two numbers in order
pub max_is : (a b : ℕ) → a ≤ b → max a b ≡ b
max_is a b order = grind (arith, nat_tests)

pub min_is : (a b : ℕ) → a ≤ b → min a b ≡ a
min_is a b order = grind (arith, nat_tests)

-- the key of a node over two keys is between them: above the lesser one, if they are two
pub node_key-between : {from a b r : ℕ} → IsNodeKey from a b r → a ≤ b → (a ≤ r) × (r ≤ b)
node_key-between {from = from} {a = a} {b = b} {r = r} is order = elim (cases_eq from 0) [
  | inl plain ↦ (let e = is.greater (inl plain) in let m = max_is a b order in (omega arith, omega arith))
  | inr some ↦ elim (cases_eq a b) [
    | inl same ↦ (let e = is.greater (inr same) in let m = max_is a b order in (omega arith, omega arith))
    | inr two ↦ (
        let branch = is.branch (omega arith) two in
        let middle = branch.middle in
        let low = branch.parts.lower.before in
        let high = branch.parts.upper.from in
        let least = min_is a b order in
        let most = max_is a b order in
        (omega arith, omega arith))
  ]
]

pub node_key-above : {from a b r : ℕ} → IsNodeKey from a b r → a < b → a < r
node_key-above {from = from} {a = a} {b = b} {r = r} is less = elim (cases_eq from 0) [
  | inl plain ↦ (let e = is.greater (inl plain) in let m = max_is a b (omega arith) in omega arith)
  | inr some ↦ (
      let branch = is.branch (omega arith) (λ e. omega arith) in
      let middle = branch.middle in
      let low = branch.parts.lower.before in
      let least = min_is a b (omega arith) in
      omega arith)
]

-- it is the key of a node over keys that are the same
pub node_key-same : {from a b r from' a' b' r' : ℕ} → from' ≡ from → a' ≡ a → b' ≡ b → r' ≡ r → IsNodeKey from a b r → IsNodeKey from' a' b' r'
node_key-same {from = from} {a = a} {b = b} {r = r} {from' = from'} {a' = a'} {b' = b'} {r' = r'} f e g h is =
    subst (λ n. IsNodeKey n a' b' r') (sym f) (subst (λ n. IsNodeKey from n b' r') (sym e)
    (subst (λ n. IsNodeKey from a n r') (sym g) (subst (IsNodeKey from a b) (sym h) is)))

-- what is between two keys on one side of a node is on that side
between_side : (middle a b r : ℕ) (right : Bool) → a ≤ r → r ≤ b → nat_le middle a ≡ right → nat_le middle b ≡ right → nat_le middle r ≡ right
between_side middle a b r true low high first last = grind (arith, nat_tests)
between_side middle a b r false low high first last = grind (arith, nat_tests)

-- an insert's key is on the side of the parent on which its node goes
pub insert_key-side : (w : Words) (stage : Stages) (c : ℕ) → InsertCard w stage c → is_right w (w.p c) (insert_key w c) ≡ insert_side w c
insert_key-side w stage c card =
    let between = node_key-between card.node_key card.ordered in
    sym (between_side (w.key (w.p c)) (w.key (left_leaf c)) (w.key (right_leaf c)) (w.key (internal c)) (is_right w (w.p c) (insert_key w c))
    between.0 between.1 left_there right_there)
  where
    left_there : is_right w (w.p c) (w.key (left_leaf c)) ≡ is_right w (w.p c) (insert_key w c)
    left_there = elim card.copy [
      | inl left ↦ ap (is_right w (w.p c)) left.key ∙ sym card.side
      | inr right ↦ elim (cases_eq (w.key (left_leaf c)) (w.key (w.l c))) [
        | inl e ↦ ap (is_right w (w.p c)) e ∙ sym card.side
        | inr n ↦ ap (is_right w (w.p c)) (sym (ap (λ b. if b then w.key (right_leaf c) else w.key (left_leaf c)) (ne_eqb (w.key (left_leaf c)) (w.key (w.l c)) n)))
      ]
    ]

    right_there : is_right w (w.p c) (w.key (right_leaf c)) ≡ is_right w (w.p c) (insert_key w c)
    right_there = elim card.copy [
      | inl left ↦ ap (is_right w (w.p c)) (sym (insert_key-right w c left.key))
      | inr right ↦ ap (is_right w (w.p c)) right.key ∙ sym card.side
    ]

-- one of two
either_of : (test : Bool) (a b : ℕ) → ((if test then a else b) ≡ a) ⊎ ((if test then a else b) ≡ b)
either_of true a b = inl refl
either_of false a b = inr refl

-- the sibling is a child of the parent
pub sibling_cases : (w : Words) (c : ℕ) → (sibling w c ≡ w.child (w.p c) false) ⊎ (sibling w c ≡ w.child (w.p c) true)
sibling_cases w c = either_of (w.child (w.p c) true == w.l c) (w.child (w.p c) false) (w.child (w.p c) true)
