use Rattle.std.proofs.Common.{◌≡◌, ℕ, suc, ◌+◌, ◌-◌, ◌*◌, ◌^◌, ◌<◌, ◌≤◌, Bool, true, false, refl, ap, ◌∙◌, arith}
use Rattle.std.proofs.Math.Nat.{two-pow-succ, mul-le-mul_right, lt_of_mul-lt-mul_right}
use Rattle.std.proofs.lemmas.Nat.{pow-add}
use Rattle.ell_block.specs.Blocks.{Block, from_of, end_of, half_from, half_end}

-- a row of some keys is in a row of so many times as many, where the two share a key
row_within : (keys times row outer key : ℕ) → row * keys ≤ key → key < row * keys + keys → outer * keys ≤ key → key < outer * keys + times * keys →
    (outer * keys ≤ row * keys) × (row * keys + keys ≤ outer * keys + times * keys)
row_within keys times row outer key from before outer_from outer_before =
    let least : outer < row + 1 = lt_of_mul-lt-mul_right keys {m = outer} {n = row + 1} (omega arith) in
    let most : row < outer + times = lt_of_mul-lt-mul_right keys {m = row} {n = outer + times} (omega arith) in
    let low = mul-le-mul_right {m = outer} {n = row} keys (omega arith) in
    let high = mul-le-mul_right {m = row + 1} {n = outer + times} keys (omega arith) in
    (low, omega arith)

-- a row of 2 ^ bit keys is in one of 2 ^ high keys, where the two share a key and the bit is at most the high one
pub rows_nest : (bit high row outer key : ℕ) → bit ≤ high →
    row * 2 ^ bit ≤ key → key < row * 2 ^ bit + 2 ^ bit → outer * 2 ^ high ≤ key → key < outer * 2 ^ high + 2 ^ high →
    (outer * 2 ^ high ≤ row * 2 ^ bit) × (row * 2 ^ bit + 2 ^ bit ≤ outer * 2 ^ high + 2 ^ high)
rows_nest bit high row outer key low from before outer_from outer_before =
    let times = 2 ^ (high - bit) in
    let whole : high ≡ (high - bit) + bit = omega arith in
    let size : 2 ^ high ≡ times * 2 ^ bit = ap (λ n. 2 ^ n) whole ∙ pow-add 2 (high - bit) bit in
    let at : outer * 2 ^ high ≡ (outer * times) * 2 ^ bit = omega (arith, ap (λ n. outer * n) size) in
    let nested = row_within (2 ^ bit) times row (outer * times) key from before (omega arith) (omega arith) in
    (let least = nested.0 in omega arith, let most = nested.1 in omega arith)

-- which of the rows of 2 ^ bit keys a half of a block is
abbrev pub half_row : Block → Bool → ℕ
half_row block false = 2 * block.place
half_row block true = 2 * block.place + 1

pub half_row-from : (block : Block) (half : Bool) → half_row block half * 2 ^ block.bit ≡ half_from block half
half_row-from block false = refl
half_row-from block true = refl

pub half_row-end : (block : Block) (half : Bool) → half_row block half * 2 ^ block.bit + 2 ^ block.bit ≡ half_end block half
half_row-end block false = omega arith
half_row-end block true = omega arith

-- a block is a row of 2 ^ (bit + 1) keys
pub block_row-from : (block : Block) → block.place * 2 ^ suc block.bit ≡ from_of block
block_row-from block = ap (λ n. block.place * n) (two-pow-succ block.bit) ∙ omega arith

pub block_row-end : (block : Block) → block.place * 2 ^ suc block.bit + 2 ^ suc block.bit ≡ end_of block
block_row-end block = let size = two-pow-succ block.bit in let from = block_row-from block in omega arith
