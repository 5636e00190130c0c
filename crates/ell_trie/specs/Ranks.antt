use Rattle.std.specs.Prelude.{ℕ, ◌+◌, ◌-◌, ◌/◌, ◌%◌, ◌==◌, if◌then◌else◌, zero, suc, Bool, true, false}
use Rattle.ell_trie.specs.Tries.{Opening}

-- how often a number can be halved without a rest, at most so many times
unfoldable pub halvings : ℕ → ℕ → ℕ
halvings zero number = 0
halvings (suc most) number = if number % 2 == 0 then suc (halvings most (number / 2)) else 0

-- the bit of the block whose middle a number is: the number of its trailing zeros
unfoldable pub bit_of : ℕ → ℕ
bit_of number = halvings number number

-- the rank of a node: that of an internal one is its depth in the opening tree, and below that the more the less its bit; a
-- leaf has a greater one than each internal node
abbrev pub rank_by : ℕ → Bool → Bool → ℕ → ℕ → ℕ
rank_by most inner true depth bit = if inner then depth else most + 65
rank_by most inner false depth bit = if inner then most + (64 - bit) else most + 65

-- by the opening tree and the keys alone, so that it never changes
unfoldable pub rank_of : Opening → (ℕ → ℕ) → ℕ → ℕ
rank_of opening key x = rank_by opening.most (x % 4 == 0) (opening.holds x) (opening.depth x) (bit_of (key x))
