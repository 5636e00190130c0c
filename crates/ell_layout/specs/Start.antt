use Rattle.std.specs.Prelude.{ℕ, ◌+◌, ◌==◌, if◌then◌else◌, Bool, true, false, zero, suc, nat_lt, List, [], ◌∷◌, ◌++◌, length, slice_index}
use Rattle.std.specs.Map.{keys_of, values_of}
use Rattle.ell_word.specs.Node.{infinity1, infinity2}
use Rattle.ell_layout.specs.declared.field.Field.{Field}
use Rattle.ell_layout.specs.declared.field.Field.TheVariants.{Key, Left, Right, Update, LeftLeafKey, RightLeafKey, LeftValue, RightValue}
use Rattle.ell_layout.specs.declared.branch.Branch.{Branch}
use Rattle.ell_layout.specs.Words.{Words, words_from}
use Rattle.ell_layout.specs.Cards.{clean}
use Rattle.ell_layout.specs.Branches.{root_branch, branch_of, left_child, right_child}

-- the keys of the leaves at the start, from left to right: the start keys, and the two above all keys
abbrev pub start_leaf : List (ℕ × ℕ) → ℕ → ℕ
start_leaf start i = slice_index (keys_of start ++ infinity1 ∷ infinity2 ∷ []) i

-- their values: those of the start keys, and 0
abbrev pub start_value : List (ℕ × ℕ) → ℕ → ℕ
start_value start i = slice_index (values_of start) i

-- the fields of a card of the opening tree, by its branch and the keys and values of all leaves: an unused leaf has 0
abbrev pub branch_field : (ℕ → ℕ) → (ℕ → ℕ) → Branch → Field → ℕ
branch_field leaf value b Key = leaf (b.first + b.left)
branch_field leaf value b Left = left_child b
branch_field leaf value b Right = right_child b
branch_field leaf value b Update = clean 0
branch_field leaf value b LeftLeafKey = if b.left == 1 then leaf b.first else 0
branch_field leaf value b RightLeafKey = if b.right == 1 then leaf (b.first + b.left) else 0
branch_field leaf value b LeftValue = if b.left == 1 then value b.first else 0
branch_field leaf value b RightValue = if b.right == 1 then value (b.first + b.left) else 0
branch_field leaf value b _ = 0

-- those of another card than the root that are written over zeros
abbrev pub branch_filling : (ℕ → ℕ) → (ℕ → ℕ) → Branch → List (Field × ℕ)
branch_filling leaf value b =
    (Key, leaf (b.first + b.left)) ∷ (Left, left_child b) ∷ (Right, right_child b) ∷ (Update, clean 0)
    ∷ (LeftLeafKey, (if b.left == 1 then leaf b.first else 0))
    ∷ (RightLeafKey, (if b.right == 1 then leaf (b.first + b.left) else 0))
    ∷ (LeftValue, (if b.left == 1 then value b.first else 0))
    ∷ (RightValue, (if b.right == 1 then value (b.first + b.left) else 0)) ∷ []

-- the fields of all cards at the start, 0 behind the opening tree; the root's left leaf has infinity1, used or not
abbrev pub start_field : List (ℕ × ℕ) → ℕ → Field → ℕ
start_field start zero LeftLeafKey = infinity1
start_field start zero f = branch_field (start_leaf start) (start_value start) (root_branch (length start + 1)) f
start_field start (suc c) f = if nat_lt c (length start)
    then branch_field (start_leaf start) (start_value start) (branch_of (length start + 1) (suc c)) f else 0

-- the words at the start: the next card is the one after the opening tree's
abbrev pub start_words : List (ℕ × ℕ) → Words
start_words start = words_from (length start + 1) (start_field start)

-- the words at the start of a flat tree: each card after those of the opening tree has a block
abbrev pub flat_words : List (ℕ × ℕ) → Words
flat_words start = record (start_words start) { flat_from = length start + 1 }

-- the words at the start of a tree that is flat or not
abbrev pub words_at_start : Bool → List (ℕ × ℕ) → Words
words_at_start true start = flat_words start
words_at_start false start = start_words start

-- the words at the start where there are no start keys
abbrev pub opening_words : Words
opening_words = start_words []
