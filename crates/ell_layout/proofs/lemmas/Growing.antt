use Rattle.std.proofs.Common.{◌≡◌, ◌≢◌, ℕ, zero, suc, ◌+◌, ◌<◌, ◌≤◌, Bool, true, false, inl, inr, if◌then◌else◌, nat_lt, List, [], ◌∷◌, length, get_or, replicate, slice_set, refl, sym, ap, ◌∙◌, subst, arith, get_or-set_same, get_or-set_other}
use Rattle.std.proofs.lemmas.Bool.{cases_lt, cases_eq, lt-ltb, le-ltb}
use Rattle.std.proofs.lemmas.List.{length-replicate}
use Rattle.ell_word.specs.Link.{tag_unit}
use Rattle.ell_word.specs.Node.{greatest_card, internal, left_leaf, right_leaf, infinity1, infinity2}
use Rattle.ell_layout.specs.declared.field.Field.{Field}
use Rattle.ell_layout.specs.declared.field.Field.TheVariants.{Gp, P, L, Was, Key, Left, Right, Update, LeftLeafKey, RightLeafKey, LeftValue, RightValue}
use Rattle.ell_layout.specs.Layout.{address, listed}
use Rattle.ell_layout.specs.Words.{Words, word, words_of, words_from, table_words}
use Rattle.ell_layout.specs.Cards.{clean, filled, table_filled, stored}
use Rattle.ell_layout.proofs.lemmas.Writes.{zeros_are_read, equal_words, made_word, made_no_key, made_no_value, made_inner_value, made_leaf_child, made_leaf_update}
use Rattle.ell_layout.proofs.lemmas.Stored.{filled_stored, filled_elsewhere}
use Rattle.ell_layout.proofs.lemmas.NewWords.{filled_claim, filled_flat, filled_expects, filled_untagged, filled_no_key, filled_no_value, filled_inner_value, filled_leaf_child, filled_leaf_update}
use Rattle.ell_layout.specs.declared.branch.Branch.{Branch}
use Rattle.ell_layout.specs.Branches.{root_branch, branch_of, left_child, right_child}
use Rattle.ell_layout.proofs.lemmas.Branches.{branch_card, branch_holds, cards_within}
use Rattle.ell_layout.proofs.lemmas.Claims.{ArePlain, table_filled_plain}
use Rattle.ell_layout.proofs.lemmas.Start.{root_field, root_fields}
use Rattle.ell_layout.specs.Start.{start_leaf, start_value, branch_field, start_field, start_words, branch_filling}

-- the fields of all cards where the opening tree's are written below card n, and those of the others are 0
abbrev pub grown : List (ℕ × ℕ) → ℕ → ℕ → Field → ℕ
grown start n zero field = root_field (length start) field
grown start n (suc c) field =
    if nat_lt (suc c) n then branch_field (start_leaf start) (start_value start) (branch_of (length start + 1) (suc c)) field else 0

-- the words that have them
abbrev pub growing : List (ℕ × ℕ) → ℕ → Words
growing start n = words_from (length start + 1) (grown start n)

-- a list of zeros has zero everywhere
zero_everywhere : (n i : ℕ) → get_or {A = ℕ} (replicate n 0) i 0 ≡ 0
zero_everywhere zero i = refl
zero_everywhere (suc n) zero = refl
zero_everywhere (suc n) (suc i) = zero_everywhere n i

-- the fields of card 0, with what the code has for its children and its update word
abbrev pub coded_root : ℕ → ℕ → ℕ → List (Field × ℕ)
coded_root left right update =
    (Key, infinity2) ∷ (Left, left) ∷ (Right, right) ∷ (Update, update) ∷ (LeftLeafKey, infinity1) ∷ (RightLeafKey, infinity2) ∷ []

-- the fields of card 0 that are written over zeros, where there are this many start keys
abbrev pub root_filling : ℕ → List (Field × ℕ)
root_filling many = coded_root (left_child (root_branch (many + 1))) (right_leaf 0) (clean 0)

-- the words of a card that is filled over zeros
root_stored : (many : ℕ) (field : Field) → stored (root_filling many) field 0 ≡ root_field many field
root_stored many Gp = refl
root_stored many P = refl
root_stored many L = refl
root_stored many Was = refl
root_stored many Key = refl
root_stored many Left = refl
root_stored many Right = refl
root_stored many Update = refl
root_stored many LeftLeafKey = refl
root_stored many RightLeafKey = refl
root_stored many LeftValue = refl
root_stored many RightValue = refl

branch_stored : (leaf value : ℕ → ℕ) (b : Branch) (field : Field) → stored (branch_filling leaf value b) field 0 ≡ branch_field leaf value b field
branch_stored leaf value b Gp = refl
branch_stored leaf value b P = refl
branch_stored leaf value b L = refl
branch_stored leaf value b Was = refl
branch_stored leaf value b Key = refl
branch_stored leaf value b Left = refl
branch_stored leaf value b Right = refl
branch_stored leaf value b Update = refl
branch_stored leaf value b LeftLeafKey = refl
branch_stored leaf value b RightLeafKey = refl
branch_stored leaf value b LeftValue = refl
branch_stored leaf value b RightValue = refl

-- a choice of two numbers is below what both are below
choice_below : (t : Bool) (a b most : ℕ) → a < most → b < most → (if t then a else b) < most
choice_below true a b most low less = low
choice_below false a b most low less = less

-- the children of a branch are nodes that fit beside a tag
left_child_small : (b : Branch) → b.card < greatest_card → left_child b < tag_unit
left_child_small b low = choice_below _ (left_leaf b.card) (internal (b.card + 1)) tag_unit (omega (arith, low)) (omega (arith, low))

right_child_small : (b : Branch) → b.card + b.left ≤ greatest_card → right_child b < tag_unit
right_child_small b low = choice_below _ (right_leaf b.card) (internal (b.card + b.left)) tag_unit (omega (arith, low)) (omega (arith, low))

-- so the fields of the root are plain
root_plain : (many : ℕ) → ArePlain (root_filling many)
root_plain many =
    let low : 0 < greatest_card = omega arith in
    let right : right_leaf 0 < tag_unit = omega arith in
    (tt, (left_child_small (root_branch (many + 1)) low, (right, (tt, (tt, (tt, tt))))))

-- and those of a branch
branch_plain : (leaf value : ℕ → ℕ) (b : Branch) → b.card < greatest_card → b.card + b.left ≤ greatest_card → ArePlain (branch_filling leaf value b)
branch_plain leaf value b card most = (tt, (left_child_small b card, (right_child_small b most, (tt, (tt, (tt, (tt, (tt, tt))))))))

-- words that are made of a function, with the fields of a card, are made of the function with them
filled_made : (next : ℕ) (at later : ℕ → Field → ℕ) (c : ℕ) (es : List (Field × ℕ)) → ((field : Field) → stored es field (at c field) ≡ later c field)
    → ((d : ℕ) (field : Field) → d ≢ c → at d field ≡ later d field) → filled (words_from next at) c es ≡ words_from next later
filled_made next at later c es here elsewhere = equal_words _ _ record {
  next = filled_claim (words_from next at) c es;
  flat_from = filled_flat (words_from next at) c es;
  word = λ d field. by d field ∙ sym (made_word next later d field);
  expects = λ d. filled_expects (words_from next at) c es d;
  tag = filled_untagged (words_from next at) c es (λ x right. refl);
  no_key = λ x h. filled_no_key (words_from next at) c es x h ∙ (made_no_key next at x h ∙ sym (made_no_key next later x h));
  no_value = λ x h. filled_no_value (words_from next at) c es x h ∙ (made_no_value next at x h ∙ sym (made_no_value next later x h));
  value = λ x h. filled_inner_value (words_from next at) c es x h ∙ (made_inner_value next at x h ∙ sym (made_inner_value next later x h));
  child = λ x right h. filled_leaf_child (words_from next at) c es x right h
      ∙ (made_leaf_child next at x right h ∙ sym (made_leaf_child next later x right h));
  update = λ x h. filled_leaf_update (words_from next at) c es x h ∙ (made_leaf_update next at x h ∙ sym (made_leaf_update next later x h));
}
  where
    there : (field : Field) → word (filled (words_from next at) c es) c field ≡ later c field
    there field = filled_stored (words_from next at) c es field ∙ (ap (stored es field) (made_word next at c field) ∙ here field)

    by : (d : ℕ) (field : Field) → word (filled (words_from next at) c es) d field ≡ later d field
    by d field = elim (cases_eq d c) [
      | inl e ↦ subst (λ k. word (filled (words_from next at) c es) k field ≡ later k field) (sym e) (there field)
      | inr n ↦ filled_elsewhere (words_from next at) c es d field n ∙ (made_word next at d field ∙ elsewhere d field n)
    ]

module _ (start : List (ℕ × ℕ)) (size : ℕ) (some : 0 < size) where
  -- zeros after a write of the claim word
  abbrev begun : List ℕ
  begun = slice_set (replicate size 0) 0 (length start + 1)

  begun_next : get_or begun 0 0 ≡ length start + 1
  begun_next = let fits : 0 < length (replicate {A = ℕ} size 0) = omega (arith, length-replicate {A = ℕ} size 0) in
      get_or-set_same (replicate size 0) 0 (length start + 1) 0 fits

  begun_flat : get_or begun 1 0 ≡ 0
  begun_flat = get_or-set_other (replicate size 0) 0 1 (length start + 1) 0 (omega arith) ∙ zero_everywhere size 1

  begun_word : (c : ℕ) (field : Field) → listed begun c field ≡ 0
  begun_word c field = get_or-set_other (replicate size 0) 0 (address c field) (length start + 1) 0 (omega arith)
      ∙ zero_everywhere size (address c field)

  begun_words : words_of begun ≡ words_from (length start + 1) (λ c field. 0)
  unfolding words_of
  begun_words = (λ t. record (table_words (begun_next t) (λ c field. begun_word c field t)) { flat_from = begun_flat t }) ∙ zeros_are_read (length start + 1)

  -- with card 0 filled
  rooted : (c : ℕ) (field : Field) → c ≢ 0 → 0 ≡ grown start 1 c field
  rooted zero field n = absurd (n refl)
  rooted (suc c) field n =
      sym (ap (λ t. if t then branch_field (start_leaf start) (start_value start) (branch_of (length start + 1) (suc c)) field else 0) (le-ltb (suc c) 1 (omega arith)))

  pub rooted_words : table_filled (words_of begun) 0 (root_filling (length start)) ≡ growing start 1
  rooted_words =
      table_filled_plain (words_of begun) 0 (root_filling (length start)) (root_plain (length start))
      ∙ (ap (λ (w : Words). filled w 0 (root_filling (length start))) begun_words
      ∙ filled_made (length start + 1) (λ c field. 0) (grown start 1) 0 (root_filling (length start)) (root_stored (length start)) rooted)

-- so begins the table
pub begins : (words : List ℕ) (start : List (ℕ × ℕ)) (size left right update : ℕ) → words ≡ replicate size 0 → 0 < size → left ≡ left_child (root_branch (length start + 1))
    → right ≡ right_leaf 0 → update ≡ clean 0
    → table_filled (words_of (slice_set words 0 (length start + 1))) 0 (coded_root left right update) ≡ growing start 1
begins words start size left right update zeros some l r u =
    (λ t. table_filled (words_of (slice_set (zeros t) 0 (length start + 1))) 0 (coded_root (l t) (r t) (u t))) ∙ rooted_words start size some

-- the fields of the card that comes next are 0
next_zero : (start : List (ℕ × ℕ)) (n : ℕ) (field : Field) → 0 < n → grown start n n field ≡ 0
next_zero start zero field some = absurd (omega arith)
next_zero start (suc n) field some =
    ap (λ t. if t then branch_field (start_leaf start) (start_value start) (branch_of (length start + 1) (suc n)) field else 0) (le-ltb (suc n) (suc n) (omega arith))

-- and then those of its branch
next_there : (start : List (ℕ × ℕ)) (n : ℕ) (field : Field) → 0 < n
    → grown start (n + 1) n field ≡ branch_field (start_leaf start) (start_value start) (branch_of (length start + 1) n) field
next_there start zero field some = absurd (omega arith)
next_there start (suc n) field some =
    ap (λ t. if t then branch_field (start_leaf start) (start_value start) (branch_of (length start + 1) (suc n)) field else 0) (lt-ltb (suc n) (suc n + 1) (omega arith))

-- the other cards' stay
others_stay : (start : List (ℕ × ℕ)) (n c : ℕ) (field : Field) → c ≢ n → grown start n c field ≡ grown start (n + 1) c field
others_stay start n zero field apart = refl
others_stay start n (suc c) field apart =
    ap (λ t. if t then branch_field (start_leaf start) (start_value start) (branch_of (length start + 1) (suc c)) field else 0) (elim (cases_lt (suc c) n) [
      | inl less ↦ lt-ltb (suc c) n less ∙ sym (lt-ltb (suc c) (n + 1) (omega arith))
      | inr past ↦ le-ltb (suc c) n past ∙ sym (le-ltb (suc c) (n + 1) (omega arith))
    ])

-- one card more
pub grows : (start : List (ℕ × ℕ)) (n : ℕ) (old new : Words) → 0 < n → n ≤ length start → length start < greatest_card → old ≡ growing start n
    → new ≡ table_filled old n (branch_filling (start_leaf start) (start_value start) (branch_of (length start + 1) n)) → new ≡ growing start (n + 1)
grows start n old new some low few is writes =
    let b = branch_of (length start + 1) n in
    let fields = branch_filling (start_leaf start) (start_value start) b in
    let below : n < length start + 1 = omega arith in
    let card = branch_card (length start + 1) (omega arith) n below in
    let within = cards_within (length start + 1) (omega arith) n below in
    let right = (branch_holds (length start + 1) (omega arith) n below).some_right in
    writes
    ∙ (table_filled_plain old n fields (branch_plain (start_leaf start) (start_value start) b (omega arith) (omega arith))
    ∙ (ap (λ (w : Words). filled w n fields) is
    ∙ filled_made (length start + 1) (grown start n) (grown start (n + 1)) n fields
    (λ field. ap (stored fields field) (next_zero start n field some)
    ∙ (branch_stored (start_leaf start) (start_value start) b field ∙ sym (next_there start n field some)))
    (others_stay start n)))

-- with all cards of the opening tree they are the words at the start
pub grown_up : (start : List (ℕ × ℕ)) (n : ℕ) → n ≡ length start + 1 → growing start n ≡ start_words start
grown_up start n is = λ t. words_from (length start + 1) (λ c field. all c field t)
  where
    all : (c : ℕ) (field : Field) → grown start n c field ≡ start_field start c field
    all zero field = sym (root_fields start field)
    all (suc c) field =
        ap (λ t. if t then branch_field (start_leaf start) (start_value start) (branch_of (length start + 1) (suc c)) field else 0) (elim (cases_lt c (length start)) [
          | inl less ↦ lt-ltb (suc c) n (omega arith) ∙ sym (lt-ltb c (length start) less)
          | inr past ↦ le-ltb (suc c) n (omega arith) ∙ sym (le-ltb c (length start) past)
        ])
