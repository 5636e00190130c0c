use Rattle.std.proofs.Common.{◌≡◌, ℕ, ◌+◌, ◌*◌, ◌/◌, ◌%◌, if◌then◌else◌, zero, suc, ◌^◌, ◌<◌, ◌≤◌, ◌⊎◌, Bool, true, false, not, nat_le, inl, inr, refl, sym, ap, ◌∙◌, subst, arith}
use Rattle.std.proofs.Math.Nat.{pow-le-pow_right, two-pow-succ}
use Rattle.std.proofs.lemmas.Nat.{pow_pos}
use Rattle.std.proofs.lemmas.Bool.{cases_lt, eq-eqb, ne_eqb}
use Rattle.std.proofs.lemmas.Bool.Decides.{nat_tests}
use Rattle.ell_block.specs.Blocks.{Block, from_of, middle_of, end_of, half_from, half_end, InBlock, InHalf, Inside, InBlockOf}
use Rattle.ell_block.proofs.lemmas.Nesting.{bits_fall, blocks_nest, branches_nest, middle_inside, half_inside}
use Rattle.ell_block.proofs.lemmas.Middles.{below_power, one_block}
use Rattle.ell_trie.specs.Ranks.{halvings, bit_of}
use Rattle.ell_trie.specs.Halves.{InHalfOf, InsideOf, IsBranchBeside}

-- a number that is the middle of a block of this bit can be halved so often
halvings_are : (most bit place number : ℕ) → number ≡ (2 * place + 1) * 2 ^ bit → bit < most → halvings most number ≡ bit
unfolding halvings
halvings_are zero bit place number is less = absurd (omega arith)
halvings_are (suc most) zero place number is less =
    ap (λ b. if b then suc (halvings most (number / 2)) else 0) (ne_eqb (number % 2) 0 (omega arith))
halvings_are (suc most) (suc bit) place number is less =
    let twice : (2 * place + 1) * 2 ^ suc bit ≡ 2 * ((2 * place + 1) * 2 ^ bit) = ap (λ n. (2 * place + 1) * n) (two-pow-succ bit) ∙ omega arith in
    let half : number / 2 ≡ (2 * place + 1) * 2 ^ bit = omega arith in
    ap (λ b. if b then suc (halvings most (number / 2)) else 0) (eq-eqb (number % 2) 0 (omega arith))
    ∙ ap suc (halvings_are most bit place (number / 2) half (omega arith))

-- the bit of the block whose middle a number is
pub bit_is : (number : ℕ) (block : Block) → number ≡ middle_of block → bit_of number ≡ block.bit
unfolding bit_of
bit_is number block middle =
    let few = below_power block.bit in
    halvings_are number block.bit block.place number middle (omega arith)

-- the bit of the block of a number below 2 ^ exponent is less than the exponent
pub bit_below : (number exponent : ℕ) → InBlockOf number number → number < 2 ^ exponent → bit_of number < exponent
bit_below number exponent is below = elim (cases_lt (bit_of number) exponent) [
  | inl less ↦ less
  | inr past ↦ absurd (
      let bit = bit_is number is.block is.middle in
      let size = pow-le-pow_right {n = 2} (omega arith) {i = exponent} {j = is.block.bit} (omega arith) in
      let middle = is.middle in
      omega arith)
]

-- a number has one block
other_block : {number : ℕ} (block other : Block) → number ≡ middle_of block → number ≡ middle_of other → other ≡ block
other_block block other middle middle2 = one_block block other (sym middle ∙ middle2)

-- the middle of a block is in the block
pub middle_there : {number : ℕ} (block : Block) → number ≡ middle_of block → InBlockOf number number
middle_there block middle = record { block = block; middle = middle; inside = subst (InBlock block) (sym middle) (middle_inside block) }

-- a half is in its block
pub half_there : {number key : ℕ} {half : Bool} → InHalfOf number half key → InBlockOf number key
half_there {key = key} {half = half} h = record { block = h.block; middle = h.middle; inside = half_inside h.block half key h.inside }

-- a number is the middle of a block that has a key in a half
pub half_middle : {number key : ℕ} {half : Bool} → InHalfOf number half key → InBlockOf number number
half_middle h = middle_there h.block h.middle

-- the side of a key at a number, by the half of its block in which it is
side_there : (block : Block) (half : Bool) (number key : ℕ) → number ≡ middle_of block → InHalf block half key → nat_le number key ≡ half
side_there block true number key middle h = let from = h.from in grind (arith, nat_tests)
side_there block false number key middle h = let before = h.before in grind (arith, nat_tests)

pub half_side : {number key : ℕ} {half : Bool} → InHalfOf number half key → nat_le number key ≡ half
half_side {number = number} {key = key} {half = half} h = side_there h.block half number key h.middle h.inside

-- a key of a block is in the half on its side
sided : (block : Block) (half : Bool) (number key : ℕ) → number ≡ middle_of block → InBlock block key → nat_le number key ≡ half → InHalf block half key
sided block true number key middle h side = let before = h.before in let more : number ≤ key = grind (arith, nat_tests) in record { from = omega arith; before = omega arith }
sided block false number key middle h side = let from = h.from in let less : key < number = grind (arith, nat_tests) in record { from = omega arith; before = omega arith }

pub side_half : {number key : ℕ} {half : Bool} → InBlockOf number key → nat_le number key ≡ half → InHalfOf number half key
side_half {number = number} {key = key} {half = half} h side =
    record { block = h.block; middle = h.middle; inside = sided h.block half number key h.middle h.inside side }

-- what is in a block is in the half in which the block is
keys_inside : (inner outer : Block) (half : Bool) (key : ℕ) → Inside inner outer half → InBlock inner key → InHalf outer half key
keys_inside inner outer half key inside h = let a = inside.from in let b = inside.before in let c = h.from in let d = h.before in record { from = omega arith; before = omega arith }

pub inside_half : {inner outer key : ℕ} {half : Bool} → InsideOf inner outer half → InBlockOf inner key → InHalfOf outer half key
inside_half {key = key} {half = half} i h = record {
  block = i.outer_block;
  middle = i.outer_middle;
  inside = keys_inside i.inner_block i.outer_block half key i.inside (subst (λ b. InBlock b key) (other_block i.inner_block h.block i.inner_middle h.middle) h.inside);
}

-- the first keys of halves are in order
halves_within : (block : Block) (half : Bool) → (from_of block ≤ half_from block half) × (half_end block half ≤ end_of block)
halves_within block true = let some = pow_pos block.bit in (omega arith, omega arith)
halves_within block false = let some = pow_pos block.bit in (omega arith, omega arith)

-- a block in a half of a block in a half of another is in that half
nested : (inner block outer : Block) (half side : Bool) → Inside inner block half → Inside block outer side → Inside inner outer side
nested inner block outer half side first second =
    let within = halves_within block half in let w0 = within.0 in let w1 = within.1 in
    let a = first.from in let b = first.before in let c = second.from in let d = second.before in
    record { from = omega arith; before = omega arith }

pub inside_inside : {inner number outer : ℕ} {half side : Bool} → InsideOf inner number half → InsideOf number outer side → InsideOf inner outer side
inside_inside {half = half} {side = side} i o =
    let same = other_block i.outer_block o.inner_block i.outer_middle o.inner_middle in record {
      inner_block = i.inner_block;
      inner_middle = i.inner_middle;
      outer_block = o.outer_block;
      outer_middle = o.outer_middle;
      inside = nested i.inner_block i.outer_block o.outer_block half side i.inside (subst (λ b. Inside b o.outer_block side) same o.inside);
    }

-- a block in a half of another has a lesser bit
pub inside_falls : {inner outer : ℕ} {half : Bool} → InsideOf inner outer half → bit_of inner < bit_of outer
inside_falls {inner = inner} {outer = outer} {half = half} i =
    let less = bits_fall i.inner_block i.outer_block half i.inside in
    let low = bit_is inner i.inner_block i.inner_middle in let high = bit_is outer i.outer_block i.outer_middle in
    omega arith

-- its middle is in that half
pub inside_middle : {inner outer : ℕ} {half : Bool} → InsideOf inner outer half → InHalfOf outer half inner
inside_middle i = inside_half i (middle_there i.inner_block i.inner_middle)

-- in an upper half it is greater than the other block's middle
above : (inner outer : Block) → Inside inner outer true → middle_of outer < middle_of inner
above inner outer inside = let some = pow_pos inner.bit in let a = inside.from in omega arith

pub inside_above : {inner outer : ℕ} → InsideOf inner outer true → outer < inner
inside_above i = let more = above i.inner_block i.outer_block i.inside in let a = i.inner_middle in let b = i.outer_middle in omega arith

-- the branch of an old key and an added one has each in a half of its block
pub branch_halves : (half : Bool) {old added branch : ℕ} → IsBranchBeside half old added branch → InHalfOf branch half added × InHalfOf branch (not half) old
branch_halves true is = (
  record { block = is.block; middle = is.middle; inside = is.parts.upper },
  record { block = is.block; middle = is.middle; inside = is.parts.lower },
)
branch_halves false is = (
  record { block = is.block; middle = is.middle; inside = is.parts.lower },
  record { block = is.block; middle = is.middle; inside = is.parts.upper },
)

not_not : (half : Bool) → not (not half) ≡ half
not_not true = refl
not_not false = refl

-- a block that lacks a key is in one half of a block, if its middle is there and the key in the other half
pub apart_inside : {half : Bool} {old added branch : ℕ} → InBlockOf old old → ¬ InBlockOf old added → InHalfOf branch half added → InHalfOf branch (not half) old → InsideOf old branch (not half)
apart_inside {half = half} {old = old} {added = added} is lacks key_there old_there =
    let same = other_block key_there.block old_there.block key_there.middle old_there.middle in record {
      inner_block = is.block;
      inner_middle = is.middle;
      outer_block = key_there.block;
      outer_middle = key_there.middle;
      inside = blocks_nest is.block key_there.block added (not half)
          (λ h. lacks (record { block = is.block; middle = is.middle; inside = h }))
          (subst (InHalf key_there.block (not half)) is.middle (subst (λ b. InHalf b (not half) old) same old_there.inside))
          (subst (λ h. InHalf key_there.block h added) (sym (not_not half)) key_there.inside);
    }

-- the block of a branch is in a half that has both keys
pub branch_inside : (half : Bool) {side : Bool} {old added branch outer : ℕ} → IsBranchBeside half old added branch → InHalfOf outer side old → InHalfOf outer side added → InsideOf branch outer side
branch_inside true {side = side} {old = old} {added = added} is low high =
    let same = other_block low.block high.block low.middle high.middle in record {
      inner_block = is.block;
      inner_middle = is.middle;
      outer_block = low.block;
      outer_middle = low.middle;
      inside = branches_nest is.block low.block side old added is.parts low.inside (subst (λ b. InHalf b side added) same high.inside);
    }
branch_inside false {side = side} {old = old} {added = added} is high low =
    let same = other_block low.block high.block low.middle high.middle in record {
      inner_block = is.block;
      inner_middle = is.middle;
      outer_block = low.block;
      outer_middle = low.middle;
      inside = branches_nest is.block low.block side added old is.parts low.inside (subst (λ b. InHalf b side old) same high.inside);
    }

-- of two keys in the two halves of a block the lesser is below the middle, and the greater is not
pub halves_part : (half : Bool) {branch key other : ℕ} → InHalfOf branch half key → InHalfOf branch (not half) other
    → ((key < branch) × (branch ≤ other)) ⊎ ((other < branch) × (branch ≤ key))
halves_part true h g = let a = h.middle in let b = h.inside.from in let c = g.middle in let d = g.inside.before in inr (omega arith, omega arith)
halves_part false h g = let a = h.middle in let b = h.inside.before in let c = g.middle in let d = g.inside.from in inl (omega arith, omega arith)
