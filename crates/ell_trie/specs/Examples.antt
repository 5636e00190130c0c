use Rattle.std.specs.Prelude.{ℕ, ◌==◌, if◌then◌else◌, nat_le, Bool, true, false}
use Rattle.ell_trie.specs.Tries.{Opening}

-- A small trie, with the keys 3 and 6: below the root, node 0, which alone is of the opening tree, are node 4, whose key is
-- the branch of the two, and a leaf of key 32. Node 8 with a leaf of key 12, and node 12 with a leaf of key 7, are not in
-- it.
abbrev pub small_key : ℕ → ℕ
small_key x =
    if x == 4 then 4 else
    if x == 5 then 3 else
    if x == 6 then 6 else
    if x == 8 then 8 else
    if x == 10 then 12 else
    if x == 12 then 7 else
    if x == 14 then 7 else
    32

abbrev pub small_child : ℕ → Bool → ℕ
small_child x false = if x == 0 then 4 else if x == 4 then 5 else if x == 12 then 6 else 4
small_child x true = if x == 0 then 2 else if x == 4 then 6 else if x == 12 then 14 else 10

abbrev pub small_born : ℕ → Bool
small_born x = nat_le x 6

abbrev pub small_opening : Opening
small_opening = record { holds = λ x. x == 0; depth = λ x. 0; most = 0 }

-- the same with key 7: node 12, over leaves 6 and 14, is the right child of node 4
abbrev pub with_seven : ℕ → Bool → ℕ
with_seven x false = small_child x false
with_seven x true = if x == 4 then 12 else small_child x true

-- the same with key 12: node 8, over node 4 and leaf 10, is the root's left child
abbrev pub with_twelve : ℕ → Bool → ℕ
with_twelve x false = if x == 0 then 8 else small_child x false
with_twelve x true = small_child x true

-- the same keys, but for node 4, which has the greater of its two leaves' keys
abbrev pub greater_key : ℕ → ℕ
greater_key x = if x == 4 then 6 else small_key x
