use Rattle.std.specs.Prelude.{ℕ, ◌+◌, ◌-◌, ◌/◌, ◌==◌, if◌then◌else◌, zero, suc, nat_lt}
use Rattle.ell_word.specs.Node.{internal, left_leaf, right_leaf}
use Rattle.ell_layout.specs.declared.branch.Branch.{Branch}

-- the branch of a card over this many leaves from the first on: half of them, rounded down, are on its left
abbrev pub halved : ℕ → ℕ → ℕ → Branch
halved card first size = record { card = card; first = first; left = size / 2; right = size - size / 2 }

-- the branches below one: its left one is of the next card, and its right one of the card behind all those on its left
abbrev pub left_branch : Branch → Branch
left_branch b = halved (b.card + 1) b.first b.left

abbrev pub right_branch : Branch → Branch
right_branch b = halved (b.card + b.left) (b.first + b.left) b.right

-- the one of the two that is card c's, or has it below
abbrev pub branch_to : ℕ → Branch → Branch
branch_to c b = if nat_lt c (b.card + b.left) then left_branch b else right_branch b

-- the branch where this many steps down to card c end: at its own at the latest
unfoldable pub descend : ℕ → ℕ → Branch → Branch
descend zero c b = b
descend (suc n) c b = if b.card == c then b else descend n c (branch_to c b)

-- how many steps lead from a branch down to card c's, of so many at most
unfoldable pub steps_to : ℕ → ℕ → Branch → ℕ
steps_to zero c b = 0
steps_to (suc n) c b = if b.card == c then 0 else suc (steps_to n c (branch_to c b))

-- the root, with this many leaves on its left and one on its right
abbrev pub root_branch : ℕ → Branch
root_branch leaves = record { card = 0; first = 0; left = leaves; right = 1 }

-- the branch of a card, where the root has this many leaves on its left
abbrev pub branch_of : ℕ → ℕ → Branch
branch_of leaves c = descend c c (root_branch leaves)

-- how deep the node of a card stands in that tree: the root's depth is 0
abbrev pub depth_of : ℕ → ℕ → ℕ
depth_of leaves c = steps_to c c (root_branch leaves)

-- how often this many leaves can be halved, rounded up, until one is left, of so many times at most
unfoldable pub halvings_of : ℕ → ℕ → ℕ
halvings_of zero leaves = 0
halvings_of (suc n) leaves = if nat_lt 1 leaves then suc (halvings_of n (leaves - leaves / 2)) else 0

-- a depth that no card's node exceeds
abbrev pub greatest_depth : ℕ → ℕ
greatest_depth leaves = halvings_of leaves leaves

-- the child of a branch on each side: its own leaf if there is one leaf on that side, else the node of the branch below
abbrev pub left_child : Branch → ℕ
left_child b = if b.left == 1 then left_leaf b.card else internal (b.card + 1)

abbrev pub right_child : Branch → ℕ
right_child b = if b.right == 1 then right_leaf b.card else internal (b.card + b.left)
