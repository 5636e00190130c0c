use Rattle.std.proofs.Common.{◌≡◌, ℕ, zero, suc, ◌+◌, ◌-◌, ◌*◌, ◌/◌, ◌%◌, ◌^◌, ◌<◌, ◌≤◌, ◌↔◌, inl, inr, sym, ap, ap₂, ◌∙◌, subst, arith}
use Rattle.std.specs.Prelude.{bit_xor}
use Rattle.std.specs.Int.{bit_at}
use Rattle.std.specs.Int.Bits.{xor_self, xor_zero_r, xor_assoc}
use Rattle.std.proofs.Math.Nat.{lt_of_mul-lt-mul_right, mul-le-mul_right, mod-eq_of_lt, lt-div-mul-add, div-mul-le_self, two-pow-succ}
use Rattle.std.proofs.lemmas.Nat.{pow_pos, pow-add, xor_shr, shr-shr}
use Rattle.std.proofs.lemmas.Nat.Bits.{bit_at_lowest, bit_at-suc}
use Rattle.std.proofs.lemmas.Bool.{cases_eq}
use Rattle.ell_block.specs.Blocks.{Block, InBlock, HasEnds, IsBranchOf, InBlockOf}
use Rattle.ell_block.proofs.lemmas.Middles.{one_block}

-- a number is in the row of 2 ^ bit numbers that its quotient names
row_of : (number bit : ℕ) → (number / 2 ^ bit * 2 ^ bit ≤ number) × (number < number / 2 ^ bit * 2 ^ bit + 2 ^ bit)
row_of number bit = (div-mul-le_self number (2 ^ bit), lt-div-mul-add {a = number} {b = 2 ^ bit} (pow_pos bit))

-- the quotient of a number that lies between two multiples
quotient_between : (number bit least past : ℕ) → least * 2 ^ bit ≤ number → number < past * 2 ^ bit → (least ≤ number / 2 ^ bit) × (number / 2 ^ bit < past)
quotient_between number bit least past from before =
    let row = row_of number bit in let first = row.0 in let last = row.1 in
    let more : least < number / 2 ^ bit + 1 = lt_of_mul-lt-mul_right (2 ^ bit) {m = least} {n = number / 2 ^ bit + 1} (omega arith) in
    (omega arith, lt_of_mul-lt-mul_right (2 ^ bit) {m = number / 2 ^ bit} {n = past} (omega arith))

-- numbers whose xor is 0 are the same
same_from_xor : (first second : ℕ) → bit_xor first second ≡ 0 → first ≡ second
same_from_xor first second none =
    sym (xor_zero_r first) ∙ ap (bit_xor first) (sym (xor_self second)) ∙ sym (xor_assoc first second second) ∙ ap (λ n. bit_xor n second) none

-- numbers whose xor is below 2 are the same above the lowest bit, and the other way round
halves_same : (first second : ℕ) → bit_xor first second < 2 → first / 2 ≡ second / 2
halves_same first second small =
    let shifted : bit_xor first second / 2 ≡ bit_xor (first / 2) (second / 2) = xor_shr first second 1 in
    let none : bit_xor first second / 2 ≡ 0 = omega arith in
    same_from_xor (first / 2) (second / 2) (sym shifted ∙ none)

xor_small : (first second : ℕ) → first / 2 ≡ second / 2 → bit_xor first second < 2
xor_small first second same =
    let shifted : bit_xor first second / 2 ≡ bit_xor (first / 2) (second / 2) = xor_shr first second 1 in
    let none : bit_xor first second / 2 ≡ 0 = shifted ∙ ap (λ n. bit_xor n (second / 2)) same ∙ xor_self (second / 2) in
    omega arith

-- the greater of two keys, with the bits below the highest bit in which they differ cleared, is their branch
pub branch_by_shifts : (lesser greater bit : ℕ) → lesser < greater → 2 ^ bit ≤ bit_xor lesser greater → bit_xor lesser greater < 2 * 2 ^ bit
    → IsBranchOf lesser greater (greater / 2 ^ bit * 2 ^ bit)
branch_by_shifts lesser greater bit less from before =
    let low = lesser / 2 ^ bit in let high = greater / 2 ^ bit in
    let low_row = row_of lesser bit in let low_from = low_row.0 in let low_before = low_row.1 in
    let high_row = row_of greater bit in let high_from = high_row.0 in let high_before = high_row.1 in
    let shifted = xor_shr lesser greater bit in
    let between = quotient_between (bit_xor lesser greater) bit 1 2 (omega arith) (omega arith) in
    let least = between.0 in let most = between.1 in
    let one : bit_xor low high ≡ 1 = sym shifted ∙ omega arith in
    let halves = halves_same low high (omega arith) in
    let apart : low ≡ high → ⊥ = λ same. (let none = ap (λ n. bit_xor n high) same ∙ xor_self high in omega arith) in
    let order : low < high + 1 = lt_of_mul-lt-mul_right (2 ^ bit) {m = low} {n = high + 1} (omega arith) in
    let next : high ≡ low + 1 = elim (cases_eq low high) [ inl same ↦ absurd (apart same) | inr other ↦ omega arith ] in
    let block : Block = record { bit = bit; place = high / 2 } in
    let upper : high ≡ 2 * (high / 2) + 1 = omega arith in
    let lower : low ≡ 2 * (high / 2) = omega arith in
    let middle : high * 2 ^ bit ≡ (2 * (high / 2) + 1) * 2 ^ bit = ap (λ n. n * 2 ^ bit) upper in
    let first : low * 2 ^ bit ≡ 2 * (high / 2) * 2 ^ bit = ap (λ n. n * 2 ^ bit) lower in
    record {
      block = block;
      middle = middle;
      parts = record {
        lower = record { from = omega arith; before = omega arith };
        upper = record { from = omega arith; before = omega arith };
      };
    }

-- a number whose lowest bits are 0 is a multiple
multiple_from_bits : (bit number : ℕ) → ((i : ℕ) → i < bit → bit_at number i ≡ 0) → number / 2 ^ bit * 2 ^ bit ≡ number
multiple_from_bits zero number none = omega arith
multiple_from_bits (suc bit) number none =
    let half = multiple_from_bits bit (number / 2) (λ i below. sym (bit_at-suc number i) ∙ none (suc i) (omega arith)) in
    let lowest : number % 2 ≡ 0 = sym (bit_at_lowest number) ∙ none 0 (omega arith) in
    let size = two-pow-succ bit in
    let quotient : number / 2 / 2 ^ bit ≡ number / 2 ^ suc bit = shr-shr number 1 bit ∙ ap (λ n. number / 2 ^ n) (let next : 1 + bit ≡ suc bit = omega arith in next) in
    let product : number / 2 ^ suc bit * 2 ^ suc bit ≡ number / 2 / 2 ^ bit * (2 ^ bit + 2 ^ bit) = ap₂ (λ n m. n * m) (sym quotient) size in
    omega arith

-- a number is the middle of the block that its lowest bit gives
middle_by_shifts : (number bit : ℕ) → bit_at number bit ≡ 1 → ((i : ℕ) → i < bit → bit_at number i ≡ 0) → number ≡ (2 * (number / 2 ^ bit / 2) + 1) * 2 ^ bit
middle_by_shifts number bit set none =
    let upper : number / 2 ^ bit ≡ 2 * (number / 2 ^ bit / 2) + 1 = omega arith in
    sym (multiple_from_bits bit number none) ∙ ap (λ n. n * 2 ^ bit) upper

-- so its block has these ends
pub ends_by_shifts : (number bit : ℕ) → bit_at number bit ≡ 1 → ((i : ℕ) → i < bit → bit_at number i ≡ 0)
    → (2 ^ bit ≤ number) × HasEnds number (number - 2 ^ bit) (number + (2 ^ bit - 1))
ends_by_shifts number bit set none =
    let middle = middle_by_shifts number bit set none in
    let some = pow_pos bit in (
      omega arith,
      record { block = record { bit = bit; place = number / 2 ^ bit / 2 }; middle = middle; from = omega arith; upto = omega arith },
    )

-- they are within 64 bits, as the number is
pub ends_in_word : (number bit : ℕ) → bit_at number bit ≡ 1 → ((i : ℕ) → i < bit → bit_at number i ≡ 0) → number < 2 ^ 64 → bit < 64
    → (1 * 2 ^ bit % 2 ^ 64 ≡ 2 ^ bit) × (number + 2 ^ bit ≤ 2 ^ 64)
ends_in_word number bit set none below small =
    let multiple = multiple_from_bits bit number none in
    let low = (ends_by_shifts number bit set none).0 in
    let all : 64 ≡ (64 - bit) + bit = omega arith in
    let whole : 2 ^ 64 ≡ 2 ^ (64 - bit) * 2 ^ bit = ap (λ n. 2 ^ n) all ∙ pow-add 2 (64 - bit) bit in
    let less : number / 2 ^ bit < 2 ^ (64 - bit) = lt_of_mul-lt-mul_right (2 ^ bit) {m = number / 2 ^ bit} {n = 2 ^ (64 - bit)} (omega arith) in
    let next = mul-le-mul_right {m = number / 2 ^ bit + 1} {n = 2 ^ (64 - bit)} (2 ^ bit) (omega arith) in
    let one : 1 * 2 ^ bit ≡ 2 ^ bit = omega arith in
    (mod-eq_of_lt (omega arith) ∙ one, omega arith)

-- a key is in a block exactly if it is the same as the middle above the block's bit
pub in_block_by_shifts : (number key bit : ℕ) → bit_at number bit ≡ 1 → ((i : ℕ) → i < bit → bit_at number i ≡ 0)
    → (bit_xor number key / 2 ^ bit < 2) ↔ InBlockOf number key
in_block_by_shifts number key bit set none =
    let place = number / 2 ^ bit / 2 in
    let block : Block = record { bit = bit; place = place } in
    let middle = middle_by_shifts number bit set none in
    let shifted = xor_shr number key bit in (
      λ small.
          let same : place ≡ key / 2 ^ bit / 2 = halves_same (number / 2 ^ bit) (key / 2 ^ bit) (omega arith) in
          let row = row_of key bit in let first = row.0 in let last = row.1 in
          let low = mul-le-mul_right {m = 2 * place} {n = key / 2 ^ bit} (2 ^ bit) (omega arith) in
          let high = mul-le-mul_right {m = key / 2 ^ bit + 1} {n = 2 * place + 2} (2 ^ bit) (omega arith) in
          record { block = block; middle = middle; inside = record { from = omega arith; before = omega arith } },
      λ inside.
          let same : inside.block ≡ block = one_block block inside.block (sym middle ∙ inside.middle) in
          let here : InBlock block key = subst (λ b. InBlock b key) same inside.inside in
          let between = quotient_between key bit (2 * place) (2 * place + 2) here.from here.before in
          let least = between.0 in let most = between.1 in
          let small = xor_small (number / 2 ^ bit) (key / 2 ^ bit) (omega arith) in
          omega arith,
    )

-- a branch is above the lesser key
pub branch_above : (lesser greater branch : ℕ) → IsBranchOf lesser greater branch → lesser < branch
branch_above lesser greater branch found = let before = found.parts.lower.before in let middle = found.middle in omega arith

-- a number whose low bits are cleared stays within 64 bits
pub within_word : (number bit : ℕ) → number < 2 ^ 64 → number / 2 ^ bit * 2 ^ bit % 2 ^ 64 ≡ number / 2 ^ bit * 2 ^ bit
within_word number bit below = let less = div-mul-le_self number (2 ^ bit) in mod-eq_of_lt (omega arith)
