use Rattle.std.proofs.Common.{◌≡◌, ℕ, zero, suc, ◌+◌, ◌-◌, ◌*◌, ◌/◌, ◌%◌, ◌^◌, ◌<◌, ◌≤◌, inl, inr, sym, ap, ap₂, ◌∙◌, subst, arith}
use Rattle.std.proofs.Math.Nat.{two-pow-succ, lt_of_mul-lt-mul_right, mul-mod_left, mul_assoc}
use Rattle.std.proofs.lemmas.Nat.{pow_pos, pow-add, div-add-mod'}
use Rattle.std.proofs.lemmas.Bool.{cases_lt, cases_order}
use Rattle.ell_block.specs.Blocks.{HasEnds, Block, middle_of, InBlock, InBlockOf, Parts, OneBlockEach, BitsCountZeros, OneBranchEach, MostZeros}

-- a multiple of 2 ^ bit by its quotient
multiple : (number bit : ℕ) → number % 2 ^ bit ≡ 0 → number ≡ number / 2 ^ bit * 2 ^ bit
multiple number bit none = let whole = div-add-mod' number (2 ^ bit) in omega arith

-- products by a power of two are the same only if their factors are
pub same_factor : (bit first second : ℕ) → first * 2 ^ bit ≡ second * 2 ^ bit → first ≡ second
same_factor bit first second same =
    let some = pow_pos bit in
    let one : first < second + 1 = lt_of_mul-lt-mul_right (2 ^ bit) {m = first} {n = second + 1} (omega arith) in
    let other : second < first + 1 = lt_of_mul-lt-mul_right (2 ^ bit) {m = second} {n = first + 1} (omega arith) in
    omega arith

-- a lesser power of two divides a multiple of a greater one
divided : (count bit exponent : ℕ) → exponent ≤ bit → count * 2 ^ bit % 2 ^ exponent ≡ 0
divided count bit exponent low =
    let whole : bit ≡ (bit - exponent) + exponent = omega arith in
    let size : 2 ^ bit ≡ 2 ^ (bit - exponent) * 2 ^ exponent = ap (λ n. 2 ^ n) whole ∙ pow-add 2 (bit - exponent) exponent in
    let product : count * 2 ^ bit ≡ count * 2 ^ (bit - exponent) * 2 ^ exponent = ap (λ n. count * n) size ∙ sym (mul_assoc count (2 ^ (bit - exponent)) (2 ^ exponent)) in
    ap (λ n. n % 2 ^ exponent) product ∙ mul-mod_left (count * 2 ^ (bit - exponent)) (2 ^ exponent)

-- an odd multiple of 2 ^ bit is no multiple of 2 ^ (bit + 1), nor of a greater power
odd : (place bit exponent : ℕ) → bit < exponent → (2 * place + 1) * 2 ^ bit % 2 ^ exponent ≡ 0 → ⊥
odd place bit exponent above none =
    let count = (2 * place + 1) * 2 ^ bit / 2 ^ exponent in
    let times = 2 ^ (exponent - suc bit) in
    let whole : exponent ≡ (exponent - suc bit) + suc bit = omega arith in
    let size : 2 ^ exponent ≡ times * 2 ^ suc bit = ap (λ n. 2 ^ n) whole ∙ pow-add 2 (exponent - suc bit) (suc bit) in
    let product : count * 2 ^ exponent ≡ (count * times) * 2 ^ suc bit = ap (λ n. count * n) size ∙ sym (mul_assoc count times (2 ^ suc bit)) in
    let twice : (count * times) * 2 ^ suc bit ≡ 2 * (count * times) * 2 ^ bit = ap (λ n. (count * times) * n) (two-pow-succ bit) ∙ omega arith in
    let same = same_factor bit (2 * place + 1) (2 * (count * times)) (multiple ((2 * place + 1) * 2 ^ bit) exponent none ∙ product ∙ twice) in
    omega arith

pub bits_count_zeros : BitsCountZeros
bits_count_zeros block exponent = (
  λ none. elim (cases_lt block.bit exponent) [
    | inl above ↦ absurd (odd block.place block.bit exponent above none)
    | inr low ↦ low
  ],
  λ low. divided (2 * block.place + 1) block.bit exponent low,
)

-- two blocks with one middle are the same
pub one_block : (block other : Block) → middle_of block ≡ middle_of other → other ≡ block
one_block block other same =
    let least : block.bit ≤ other.bit = (bits_count_zeros other block.bit).0 (ap (λ n. n % 2 ^ block.bit) (sym same) ∙ (bits_count_zeros block block.bit).1 (omega arith)) in
    let most : other.bit ≤ block.bit = (bits_count_zeros block other.bit).0 (ap (λ n. n % 2 ^ other.bit) same ∙ (bits_count_zeros other other.bit).1 (omega arith)) in
    let bit : other.bit ≡ block.bit = omega arith in
    let factor = same_factor block.bit (2 * other.place + 1) (2 * block.place + 1)
    (ap (λ n. (2 * other.place + 1) * 2 ^ n) (sym bit) ∙ sym same) in
    let place : other.place ≡ block.place = omega arith in
    ap₂ (λ b p. record { bit = b; place = p }) bit place

-- a key in the block of a number is between the block's ends
pub within_ends : (number first last key : ℕ) → HasEnds number first last → InBlockOf number key → (first ≤ key) × (key ≤ last)
within_ends number first last key ends inside =
    let same : inside.block ≡ ends.block = one_block ends.block inside.block (sym ends.middle ∙ inside.middle) in
    let here : InBlock ends.block key = subst (λ b. InBlock b key) same inside.inside in
    let low = here.from in
    let high = here.before in
    let begins = ends.from in
    let stops = ends.upto in
    (omega arith, omega arith)

-- a key outside the block whose middle a branch is, is not in the block of the branch
pub not_in_block : (block : Block) (key : ℕ) → ¬ InBlock block key → ¬ InBlockOf (middle_of block) key
not_in_block block key outside found = outside (subst (λ b. InBlock b key) (one_block block found.block found.middle) found.inside)

-- each number but 0 below 2 ^ n is the middle of a block
some_block : (n number : ℕ) → 0 < number → number < 2 ^ n → (block : Block) × (number ≡ middle_of block)
some_block zero number some below = absurd (omega arith)
some_block (suc n) number some below = elim (cases_order (number % 2) 0) [
  | inl even ↦
      let size = two-pow-succ n in
      let found = some_block n (number / 2) (omega arith) (omega arith) in
      let half = found.1 in
      let next = ap (λ m. (2 * found.0.place + 1) * m) (two-pow-succ found.0.bit) in
      (record { bit = suc found.0.bit; place = found.0.place }, omega arith)
  | inr (inl less) ↦ absurd (omega arith)
  | inr (inr more) ↦ (record { bit = 0; place = number / 2 }, omega arith)
]

-- a number is below a power of two
pub below_power : (number : ℕ) → number < 2 ^ number
below_power zero = omega arith
below_power (suc number) = let before = below_power number in let size = two-pow-succ number in omega arith

pub one_block_each : OneBlockEach
one_block_each number some =
    let found = some_block number number some (below_power number) in
    (found.0, found.1, λ other same. one_block found.0 other (sym found.1 ∙ same))

pub most_zeros : MostZeros
most_zeros block lesser greater number parts above within none =
    let count = number / 2 ^ block.bit in
    let product = multiple number block.bit none in
    let from = parts.lower.from in let before = parts.upper.before in
    let least : 2 * block.place < count = lt_of_mul-lt-mul_right (2 ^ block.bit) {m = 2 * block.place} {n = count} (omega arith) in
    let most : count < 2 * block.place + 2 = lt_of_mul-lt-mul_right (2 ^ block.bit) {m = count} {n = 2 * block.place + 2} (omega arith) in
    let same : count ≡ 2 * block.place + 1 = omega arith in
    product ∙ ap (λ n. n * 2 ^ block.bit) same

-- of two blocks that part two keys, the one whose bit is no greater has the middle of the other
same_middle : (block other : Block) (lesser greater : ℕ) → block.bit ≤ other.bit → Parts block lesser greater → Parts other lesser greater → middle_of other ≡ middle_of block
same_middle block other lesser greater low parts other_parts =
    most_zeros block lesser greater (middle_of other) parts other_parts.lower.before other_parts.upper.from ((bits_count_zeros other block.bit).1 low)

pub one_branch_each : OneBranchEach
one_branch_each lesser greater branch other is_branch is_other = elim (cases_lt is_other.block.bit is_branch.block.bit) [
  | inl less ↦ is_branch.middle ∙ same_middle is_other.block is_branch.block lesser greater (omega arith) is_other.parts is_branch.parts ∙ sym is_other.middle
  | inr past ↦ is_branch.middle ∙ sym (same_middle is_branch.block is_other.block lesser greater past is_branch.parts is_other.parts) ∙ sym is_other.middle
]
