use Rattle.std.specs.Prelude.{◌≡◌, ℕ, Bool, true, false}
use Rattle.ell_block.specs.Blocks.{Block, middle_of, InHalf, Inside, IsBranchOf}

-- Each number but 0 is the middle of one block, and is called the branch of that block here. A key is in a half of the
-- block of a branch.
pub record InHalfOf (branch : ℕ) (half : Bool) (key : ℕ) : Type 0 where
  pub block : Block
  pub middle : branch ≡ middle_of block
  pub inside : InHalf block half key

-- the block of a branch is in a half of the block of another branch
pub record InsideOf (inner outer : ℕ) (half : Bool) : Type 0 where
  pub inner_block : Block
  pub inner_middle : inner ≡ middle_of inner_block
  pub outer_block : Block
  pub outer_middle : outer ≡ middle_of outer_block
  pub inside : Inside inner_block outer_block half

-- a number is the branch of an old key and an added one, and the added key is in this half: it is the greater one in the
-- upper half, and the lesser one in the lower half
abbrev pub IsBranchBeside : Bool → ℕ → ℕ → ℕ → Type 0
IsBranchBeside true old added branch = IsBranchOf old added branch
IsBranchBeside false old added branch = IsBranchOf added old branch
