use Rattle.std.proofs.Common.{◌≡◌, ℕ, zero, suc, ◌+◌, ◌<◌, ◌≤◌, ◌⊎◌, inl, inr, if◌then◌else◌, List, [], ◌∷◌, length, get_or, sym, ap, ◌∙◌, arith, refl}
use Rattle.std.proofs.lemmas.Bool.{cases_lt, cases_eq, eq-eqb, lt-ltb, le-ltb}
use Rattle.std.proofs.lemmas.List.{get_or_append_left}
use Rattle.std.proofs.lemmas.List.Kept.{AllPairs-from_increasing}
use Rattle.std.specs.List.{All}
use Rattle.std.specs.Map.{keys_of}
use Rattle.std.specs.List.Sorted.{IsStrictlyIncreasing}
use Rattle.ell_ops.specs.Meaning.{greatest_key}
use Rattle.ell_word.specs.Node.{internal, infinity1, infinity2}
use Rattle.ell_layout.specs.declared.field.Field.{Field}
use Rattle.ell_layout.specs.declared.field.Field.TheVariants.{Gp, P, L, Was, Key, Left, Right, Update, LeftLeafKey, RightLeafKey, LeftValue, RightValue}
use Rattle.ell_layout.specs.Words.{Words, word}
use Rattle.ell_layout.specs.Cards.{clean}
use Rattle.ell_core.specs.history.Invariant.{top, Blank}
use Rattle.ell_layout.proofs.lemmas.Writes.{made_word}
use Rattle.ell_layout.specs.Branches.{root_branch, branch_of, descend}
use Rattle.ell_layout.specs.Start.{start_leaf, start_value, branch_field, start_field, start_words}
use Rattle.ell_layout.proofs.lemmas.Start.{root_field, keys_length, leaf_last, leaf_root, value_past, root_fields}
use Rattle.ell_core.proofs.lemmas.opening.StartTree.{HasBranch}

-- the leaf at a place has its value
abbrev pub has_value : List (ℕ × ℕ) → ℕ → ℕ → Type 0
has_value start i x = (start_words start).value x ≡ start_value start i

-- the words at the start of a tree that is flat from this card on
abbrev pub start_from : List (ℕ × ℕ) → ℕ → Words
start_from start from = record (start_words start) { flat_from = from }

-- the fields of the cards say the same there
word_from : (start : List (ℕ × ℕ)) (from c : ℕ) (field : Field) → word (start_from start from) c field ≡ word (start_words start) c field
word_from start from c Gp = refl
word_from start from c P = refl
word_from start from c L = refl
word_from start from c Was = refl
word_from start from c Key = refl
word_from start from c Left = refl
word_from start from c Right = refl
word_from start from c Update = refl
word_from start from c LeftLeafKey = refl
word_from start from c RightLeafKey = refl
word_from start from c LeftValue = refl
word_from start from c RightValue = refl

module _ (start : List (ℕ × ℕ)) where
  -- the keys of the leaves: the start keys, then the two above all keys
  pub leaf_key : (i : ℕ) → i < length start → start_leaf start i ≡ get_or (keys_of start) i 0
  leaf_key i below = let e = keys_length start in get_or_append_left (keys_of start) (infinity1 ∷ infinity2 ∷ []) 0 i (omega arith)

  -- they rise, where the start keys do and are real ones
  module _ (ascending : IsStrictlyIncreasing (keys_of start)) (real : All (λ k. k ≤ greatest_key) (keys_of start)) where
    -- each leaf is a start key's or one of the last two
    leaf_cases : (i : ℕ) → i ≤ length start + 1 → (i < length start) ⊎ ((i ≡ length start) ⊎ (i ≡ length start + 1))
    leaf_cases i within = elim (cases_lt i (length start)) [
      | inl less ↦ inl less
      | inr past ↦ elim (cases_eq i (length start)) [
        | inl e ↦ inr (inl e)
        | inr n ↦ inr (inr (omega arith))
      ]
    ]

    pub leaf_real : (i : ℕ) → i < length start → start_leaf start i ≤ greatest_key
    leaf_real i below = let e = leaf_key i below in let n = keys_length start in
        let r : get_or (keys_of start) i 0 ≤ greatest_key = real i 0 (omega arith) in omega arith

    pub leaves_rise : (i j : ℕ) → i < j → j ≤ length start + 1 → start_leaf start i < start_leaf start j
    leaves_rise i j less within = elim (leaf_cases j within) [
      | inl below ↦
          let n = keys_length start in
          let r : get_or (keys_of start) i 0 < get_or (keys_of start) j 0 = AllPairs-from_increasing (keys_of start) ascending i j 0 less (omega arith) in
          let a = leaf_key i (omega arith) in
          let b = leaf_key j below in
          omega arith
      | inr (inl last) ↦
          let r = leaf_real i (omega arith) in
          let b = ap (start_leaf start) last ∙ leaf_last start in
          omega arith
      | inr (inr past) ↦ elim (cases_lt i (length start)) [
        | inl below ↦
            let r = leaf_real i below in
            let b = ap (start_leaf start) past ∙ leaf_root start in
            omega arith
        | inr rest ↦
            let e : i ≡ length start = omega arith in
            let a = ap (start_leaf start) e ∙ leaf_last start in
            let b = ap (start_leaf start) past ∙ leaf_root start in
            omega arith
      ]
    ]

    pub leaves_end : (i : ℕ) → i ≤ length start + 1 → start_leaf start i < top
    leaves_end i within = elim (leaf_cases i within) [
      | inl below ↦ (let r = leaf_real i below in omega arith)
      | inr (inl last) ↦ (let b = ap (start_leaf start) last ∙ leaf_last start in omega arith)
      | inr (inr past) ↦ (let b = ap (start_leaf start) past ∙ leaf_root start in omega arith)
    ]

  -- the word of a field of card 0
  root_word : (field : Field) → word (start_words start) 0 field ≡ root_field (length start) field
  root_word field = made_word (length start + 1) (start_field start) 0 field ∙ root_fields start field

  -- of another card of the opening tree
  branch_word : (c : ℕ) (field : Field) → c < length start
      → word (start_words start) (suc c) field ≡ branch_field (start_leaf start) (start_value start) (branch_of (length start + 1) (suc c)) field
  branch_word c field below =
      made_word (length start + 1) (start_field start) (suc c) field
      ∙ ap (λ t. if t then branch_field (start_leaf start) (start_value start) (branch_of (length start + 1) (suc c)) field else 0) (lt-ltb c (length start) below)

  -- and of a card after those
  pub later_word : (c : ℕ) (field : Field) → length start < c → word (start_words start) c field ≡ 0
  later_word zero field past = absurd (omega arith)
  later_word (suc c) field past =
      made_word (length start + 1) (start_field start) (suc c) field
      ∙ ap (λ t. if t then branch_field (start_leaf start) (start_value start) (branch_of (length start + 1) (suc c)) field else 0) (le-ltb c (length start) (omega arith))

  -- card 0 is the root's branch
  root_has : HasBranch (start_leaf start) (start_words start).key (start_words start).child (has_value start) 0 (root_branch (length start + 1))
  root_has = record {
    node_key = root_word Key ∙ sym (ap (start_leaf start) zero_more ∙ leaf_root start);
    left = root_word Left;
    right = root_word Right;
    left_key = λ one. root_word LeftLeafKey ∙ (sym (leaf_last start) ∙ ap (start_leaf start) (let e : length start ≡ 0 = omega arith in e));
    right_key = λ one. root_word RightLeafKey ∙ sym (ap (start_leaf start) zero_more ∙ leaf_root start);
    left_holds = λ one. root_word LeftValue ∙ sym (value_past start 0 (omega arith));
    right_holds = λ one. root_word RightValue ∙ sym (value_past start (0 + (length start + 1)) (omega arith));
  }
    where
      zero_more : 0 + (length start + 1) ≡ length start + 1
      zero_more = omega arith

  -- every other card of the opening tree has its branch
  branch_has : (c : ℕ) → c < length start
      → HasBranch (start_leaf start) (start_words start).key (start_words start).child (has_value start) (suc c) (branch_of (length start + 1) (suc c))
  branch_has c below = let b = branch_of (length start + 1) (suc c) in record {
    node_key = branch_word c Key below;
    left = branch_word c Left below;
    right = branch_word c Right below;
    left_key = λ one. branch_word c LeftLeafKey below ∙ ap (λ t. if t then start_leaf start b.first else 0) (eq-eqb b.left 1 one);
    right_key = λ one. branch_word c RightLeafKey below ∙ ap (λ t. if t then start_leaf start (b.first + b.left) else 0) (eq-eqb b.right 1 one);
    left_holds = λ one. branch_word c LeftValue below ∙ ap (λ t. if t then start_value start b.first else 0) (eq-eqb b.left 1 one);
    right_holds = λ one. branch_word c RightValue below ∙ ap (λ t. if t then start_value start (b.first + b.left) else 0) (eq-eqb b.right 1 one);
  }

  -- so has each of them
  pub has_branches : (c : ℕ) → c < length start + 1
      → HasBranch (start_leaf start) (start_words start).key (start_words start).child (has_value start) c (branch_of (length start + 1) c)
  unfolding descend
  has_branches zero below = root_has
  has_branches (suc c) below = branch_has c (omega arith)

  -- their nodes' update words are clean
  pub clean_update : (c : ℕ) → c < length start + 1 → (start_words start).update (internal c) ≡ clean 0
  clean_update zero below = root_word Update
  clean_update (suc c) below = branch_word c Update (omega arith)

  -- and they go nowhere
  pub goes_none : (c : ℕ) → c < length start + 1 → (word (start_words start) c Gp ≡ 0) × (word (start_words start) c P ≡ 0)
      × (word (start_words start) c L ≡ 0) × (word (start_words start) c Was ≡ 0)
  goes_none zero below = (root_word Gp, root_word P, root_word L, root_word Was)
  goes_none (suc c) below = let less : c < length start = omega arith in (branch_word c Gp less, branch_word c P less, branch_word c L less, branch_word c Was less)

  -- the cards after them are blank
  pub later_blank : (from c : ℕ) → length start < c → Blank (start_from start from) c
  later_blank from c past = record { words = λ field. word_from start from c field ∙ later_word c field past; expects = refl; tags = λ right. refl }
