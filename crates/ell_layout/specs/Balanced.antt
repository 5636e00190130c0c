use Rattle.std.specs.Prelude.{◌≡◌, ℕ, ◌+◌, ◌^◌, ◌<◌, ◌≤◌}
use Rattle.ell_layout.specs.declared.branch.Branch.{Branch}
use Rattle.ell_layout.specs.Branches.{depth_of, greatest_depth, branch_of, descend, left_branch, right_branch, root_branch}

-- the branch of a card: it is that card's, has leaves on both sides, which are among those of the tree, as its cards
-- are, and the branches below it are its halves
pub record IsBranch (leaves c : ℕ) (b : Branch) : Type 0 where
  pub card : b.card ≡ c
  pub some_left : 0 < b.left
  pub some_right : 0 < b.right
  pub leaves_within : b.first + b.left + b.right ≤ leaves + 1
  pub cards_within : c + b.left + b.right ≤ leaves + 1
  pub left : 1 < b.left → branch_of leaves (c + 1) ≡ left_branch b
  pub right : 1 < b.right → branch_of leaves (c + b.left) ≡ right_branch b

-- where the root has so many leaves on its left, as many cards, from card 0 on, have such branches
abbrev pub BranchesAreHalves : Type 0
BranchesAreHalves = (leaves c : ℕ) → c < leaves → IsBranch leaves c (branch_of leaves c)

-- a branch is one step deeper than the one above it
pub record DeepensBy (leaves c : ℕ) (b : Branch) : Type 0 where
  pub left : 1 < b.left → depth_of leaves (c + 1) ≡ depth_of leaves c + 1
  pub right : 1 < b.right → depth_of leaves (c + b.left) ≡ depth_of leaves c + 1

abbrev pub DepthsRise : Type 0
DepthsRise = (leaves c : ℕ) → c < leaves → DeepensBy leaves c (branch_of leaves c)

-- no card's node is deeper than the greatest depth, which is at most n for up to 2 ^ n leaves
abbrev pub DepthsAreFew : Type 0
DepthsAreFew = (leaves c : ℕ) → c < leaves → depth_of leaves c ≤ greatest_depth leaves

abbrev pub GreatestDepthIsSmall : Type 0
GreatestDepthIsSmall = (n leaves : ℕ) → leaves ≤ 2 ^ n → greatest_depth leaves ≤ n

-- no card is more than n steps below the root of a tree of at most 2 ^ n leaves
abbrev pub TreeIsShallow : Type 0
TreeIsShallow = (n leaves c : ℕ) → c < leaves → leaves ≤ 2 ^ n → descend n c (root_branch leaves) ≡ branch_of leaves c
