use Rattle.std.specs.Prelude.{◌≡◌, ℕ, ◌+◌, ◌*◌, ◌%◌, ◌^◌, ◌<◌, ◌≤◌, ◌↔◌, Bool, true, false, not}

-- A block is a row of 2 ^ (bit + 1) keys, with `place` rows of that length before it. Each of its two halves has
-- 2 ^ bit keys.
pub record Block : Type 0 where
  pub bit : ℕ
  pub place : ℕ

-- the first key of a block, the first one of its upper half, and the first one past it
abbrev pub from_of : Block → ℕ
from_of block = 2 * block.place * 2 ^ block.bit

abbrev pub middle_of : Block → ℕ
middle_of block = (2 * block.place + 1) * 2 ^ block.bit

abbrev pub end_of : Block → ℕ
end_of block = (2 * block.place + 2) * 2 ^ block.bit

-- the first key of a half, and the first one past it: the lower half is `false`, and the upper half `true`
abbrev pub half_from : Block → Bool → ℕ
half_from block false = from_of block
half_from block true = middle_of block

abbrev pub half_end : Block → Bool → ℕ
half_end block false = middle_of block
half_end block true = end_of block

-- a key is in a block
pub record InBlock (block : Block) (key : ℕ) : Type 0 where
  pub from : from_of block ≤ key
  pub before : key < end_of block

-- a key is in a half of a block
pub record InHalf (block : Block) (half : Bool) (key : ℕ) : Type 0 where
  pub from : half_from block half ≤ key
  pub before : key < half_end block half

-- a block is in a half of another block
pub record Inside (inner outer : Block) (half : Bool) : Type 0 where
  pub from : half_from outer half ≤ from_of inner
  pub before : end_of inner ≤ half_end outer half

-- a block parts two keys: the lesser one is in its lower half, and the greater one in its upper half
pub record Parts (block : Block) (lesser greater : ℕ) : Type 0 where
  pub lower : InHalf block false lesser
  pub upper : InHalf block true greater

-- the branch of two keys is the middle of a block that parts them
pub record IsBranchOf (lesser greater branch : ℕ) : Type 0 where
  pub block : Block
  pub middle : branch ≡ middle_of block
  pub parts : Parts block lesser greater

-- a key is in the block of a branch: in the block whose middle the branch is
pub record InBlockOf (branch key : ℕ) : Type 0 where
  pub block : Block
  pub middle : branch ≡ middle_of block
  pub inside : InBlock block key

-- the block of a branch begins with this key, and ends with that
pub record HasEnds (branch first last : ℕ) : Type 0 where
  pub block : Block
  pub middle : branch ≡ middle_of block
  pub from : first ≡ from_of block
  pub upto : last + 1 ≡ end_of block

-- each number but 0 is the middle of one block
abbrev pub OneBlockEach : Type 0
OneBlockEach = (number : ℕ) → 0 < number →
    (block : Block) × (number ≡ middle_of block) × ((other : Block) → number ≡ middle_of other → other ≡ block)

-- the bit of a block is the number of trailing zeros of its middle: 2 ^ zeros divides the middle exactly if `zeros` is at
-- most the bit
abbrev pub BitsCountZeros : Type 0
BitsCountZeros = (block : Block) (zeros : ℕ) → (middle_of block % 2 ^ zeros ≡ 0) ↔ (zeros ≤ block.bit)

-- two different keys below 2 ^ n are parted by a block whose bit is below n
abbrev pub TwoKeysPart : Type 0
TwoKeysPart = (n lesser greater : ℕ) → lesser < greater → greater < 2 ^ n →
    (block : Block) × (block.bit < n) × Parts block lesser greater

-- two keys have no second branch
abbrev pub OneBranchEach : Type 0
OneBranchEach = (lesser greater branch other : ℕ) →
    IsBranchOf lesser greater branch → IsBranchOf lesser greater other → branch ≡ other

-- of the numbers above the lesser of two keys and up to the greater one, their branch has the most trailing zeros: it alone
-- is a multiple of 2 ^ bit
abbrev pub MostZeros : Type 0
MostZeros = (block : Block) (lesser greater number : ℕ) → Parts block lesser greater →
    lesser < number → number ≤ greater → number % 2 ^ block.bit ≡ 0 → number ≡ middle_of block

-- a block in a half of another block has a lesser bit
abbrev pub BitsFall : Type 0
BitsFall = (inner outer : Block) (half : Bool) → Inside inner outer half → inner.bit < outer.bit

-- if the middle of a block is in one half of another block, and the other half has a key that is not in the first block, the
-- first block is in the one half
abbrev pub BlocksNest : Type 0
BlocksNest = (inner outer : Block) (key : ℕ) (half : Bool) → ¬ InBlock inner key →
    InHalf outer half (middle_of inner) → InHalf outer (not half) key → Inside inner outer half

-- a block that parts two keys of a half of another block is in that half
abbrev pub BranchesNest : Type 0
BranchesNest = (inner outer : Block) (half : Bool) (lesser greater : ℕ) → Parts inner lesser greater →
    InHalf outer half lesser → InHalf outer half greater → Inside inner outer half

-- a block fits above an old block and a new key: it has the key in one half and the old block in the other, and it is in
-- each half of a block in which the middle of the old block and the key are
pub record Fits (block : Block) (half : Bool) (old : Block) (key : ℕ) : Type 0 where
  pub beside : InHalf block half key
  pub below : Inside old block (not half)
  pub within : (outer : Block) (side : Bool) →
      InHalf outer side (middle_of old) → InHalf outer side key → Inside block outer side

-- for each key outside a block there is a block that fits above both; its bit is below n, if the key and the middle of the
-- first block are below 2 ^ n
abbrev pub BranchesFit : Type 0
BranchesFit = (n : ℕ) (old : Block) (key : ℕ) → middle_of old < 2 ^ n → key < 2 ^ n → ¬ InBlock old key →
    (block : Block) × (block.bit < n) × ((half : Bool) × Fits block half old key)
