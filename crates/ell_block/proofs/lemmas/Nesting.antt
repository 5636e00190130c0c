use Rattle.std.proofs.Common.{◌≡◌, ℕ, zero, suc, ◌+◌, ◌*◌, ◌/◌, ◌^◌, ◌<◌, ◌≤◌, Bool, true, false, not, inl, inr, ap, arith}
use Rattle.std.proofs.Math.Nat.{two-pow-succ, pow-le-pow_right}
use Rattle.std.proofs.lemmas.Nat.{pow_pos}
use Rattle.std.proofs.lemmas.Bool.{cases_lt, cases_eq, cases_order}
use Rattle.ell_block.specs.Blocks.{Block, middle_of, InBlock, InHalf, Inside, Parts, TwoKeysPart, BitsFall, BlocksNest, BranchesNest, BranchesFit}
use Rattle.ell_block.proofs.lemmas.Rows.{rows_nest, half_row, half_row-from, half_row-end, block_row-from, block_row-end}

-- twice a product
doubled : (count half : ℕ) → count * (half + half) ≡ 2 * (count * half)
doubled count half = omega arith

-- the block of two keys of which the halves, rounded down, have a block: it has the next bit
parted_above : (lesser greater : ℕ) (block : Block) → Parts block (lesser / 2) (greater / 2) → Parts (record { bit = suc block.bit; place = block.place }) lesser greater
parted_above lesser greater block parts =
    let size = two-pow-succ block.bit in
    let a = parts.lower.from in let b = parts.lower.before in let c = parts.upper.from in let d = parts.upper.before in
    let from = doubled (2 * block.place) (2 ^ block.bit) in
    let middle = doubled (2 * block.place + 1) (2 ^ block.bit) in
    let past = doubled (2 * block.place + 2) (2 ^ block.bit) in
    let from_size = ap (λ n. 2 * block.place * n) size in
    let middle_size = ap (λ n. (2 * block.place + 1) * n) size in
    let past_size = ap (λ n. (2 * block.place + 2) * n) size in
    record {
      lower = record { from = omega arith; before = omega arith };
      upper = record { from = omega arith; before = omega arith };
    }

pub two_keys_part : TwoKeysPart
two_keys_part zero lesser greater less below = absurd (omega arith)
two_keys_part (suc n) lesser greater less below = elim (cases_eq (lesser / 2) (greater / 2)) [
  | inl same ↦ (
    record { bit = 0; place = greater / 2 },
    omega arith,
    record {
      lower = record { from = omega arith; before = omega arith };
      upper = record { from = omega arith; before = omega arith };
    },
  )
  | inr apart ↦
      let size = two-pow-succ n in
      let found = two_keys_part n (lesser / 2) (greater / 2) (omega arith) (omega arith) in
      let low = found.1 in
      (record { bit = suc found.0.bit; place = found.0.place }, omega arith, parted_above lesser greater found.0 found.2)
]

-- the middle of a block is in it
pub middle_inside : (block : Block) → InBlock block (middle_of block)
middle_inside block = let some = pow_pos block.bit in record { from = omega arith; before = omega arith }

-- a half is in its block
pub half_inside : (block : Block) (half : Bool) (key : ℕ) → InHalf block half key → InBlock block key
half_inside block false key inside =
    let some = pow_pos block.bit in let a = inside.from in let b = inside.before in
    record { from = omega arith; before = omega arith }
half_inside block true key inside =
    let some = pow_pos block.bit in let a = inside.from in let b = inside.before in
    record { from = omega arith; before = omega arith }

-- no key is in both halves
halves_apart : (block : Block) (half : Bool) (key : ℕ) → InHalf block half key → InHalf block (not half) key → ⊥
halves_apart block true key one other = let a = one.from in let b = other.before in omega arith
halves_apart block false key one other = let a = one.before in let b = other.from in omega arith

pub bits_fall : BitsFall
bits_fall inner outer half inside = elim (cases_lt inner.bit outer.bit) [
  | inl less ↦ less
  | inr past ↦ absurd (
      let size = pow-le-pow_right {n = 2} (omega arith) {i = outer.bit} {j = inner.bit} past in
      let some = pow_pos outer.bit in
      let from = half_row-from outer half in let end = half_row-end outer half in
      let a = inside.from in let b = inside.before in
      omega arith)
]

-- a block is in a half of one that has a greater bit, where the two share a key
block_in_half : (block outer : Block) (half : Bool) (key : ℕ) → block.bit < outer.bit → InBlock block key → InHalf outer half key → Inside block outer half
block_in_half block outer half key less inside shared =
    let from = block_row-from block in let end = block_row-end block in
    let outer_from = half_row-from outer half in let outer_end = half_row-end outer half in
    let a = inside.from in let b = inside.before in let c = shared.from in let d = shared.before in
    let nested = rows_nest (suc block.bit) outer.bit block.place (half_row outer half) key (omega arith) (omega arith) (omega arith) (omega arith) (omega arith) in
    let least = nested.0 in let most = nested.1 in
    record { from = omega arith; before = omega arith }

-- a block has all keys of one whose bit is no greater, where the two share a key
block_in_block : (block inner : Block) (shared key : ℕ) → inner.bit ≤ block.bit → InBlock block shared → InBlock inner shared → InBlock inner key → InBlock block key
block_in_block block inner shared key less outside inside other =
    let from = block_row-from block in let end = block_row-end block in
    let inner_from = block_row-from inner in let inner_end = block_row-end inner in
    let a = outside.from in let b = outside.before in let c = inside.from in let d = inside.before in let e = other.from in let f = other.before in
    let nested = rows_nest (suc inner.bit) (suc block.bit) inner.place block.place shared (omega arith) (omega arith) (omega arith) (omega arith) (omega arith) in
    let least = nested.0 in let most = nested.1 in
    record { from = omega arith; before = omega arith }

-- a half has all keys of a half of a block whose bit is no greater, where the two share a key
half_in_half : (inner block : Block) (half side : Bool) (shared key : ℕ) → inner.bit ≤ block.bit → InHalf inner half shared → InHalf block side shared → InHalf inner half key → InHalf block side key
half_in_half inner block half side shared key less inside outside other =
    let from = half_row-from inner half in let end = half_row-end inner half in
    let outer_from = half_row-from block side in let outer_end = half_row-end block side in
    let a = inside.from in let b = inside.before in let c = outside.from in let d = outside.before in let e = other.from in let f = other.before in
    let nested = rows_nest inner.bit block.bit (half_row inner half) (half_row block side) shared less (omega arith) (omega arith) (omega arith) (omega arith) in
    let least = nested.0 in let most = nested.1 in
    record { from = omega arith; before = omega arith }

pub blocks_nest : BlocksNest
blocks_nest inner outer key half outside middle other = elim (cases_lt inner.bit outer.bit) [
  | inl less ↦ block_in_half inner outer half (middle_of inner) less (middle_inside inner) middle
  | inr past ↦ absurd (outside (block_in_block inner outer (middle_of inner) key past (middle_inside inner)
      (half_inside outer half (middle_of inner) middle) (half_inside outer (not half) key other)))
]

pub branches_nest : BranchesNest
branches_nest inner outer half lesser greater parts low high = elim (cases_lt inner.bit outer.bit) [
  | inl less ↦ block_in_half inner outer half lesser less (half_inside inner false lesser parts.lower) low
  | inr past ↦ absurd (halves_apart inner true greater parts.upper (half_in_half outer inner half false lesser greater past low parts.lower high))
]

pub branches_fit : BranchesFit
branches_fit n old key old_below below outside = elim (cases_order key (middle_of old)) [
  | inl same ↦ absurd (outside (let some = pow_pos old.bit in record { from = omega arith; before = omega arith }))
  | inr (inl less) ↦
      let found = two_keys_part n key (middle_of old) less old_below in (
        found.0,
        found.1,
        (
          false,
          record {
            beside = found.2.lower;
            below = blocks_nest old found.0 key true outside found.2.upper found.2.lower;
            within = λ outer side high low. branches_nest found.0 outer side key (middle_of old) found.2 low high;
          },
        ),
      )
  | inr (inr more) ↦
      let found = two_keys_part n (middle_of old) key more below in (
        found.0,
        found.1,
        (
          true,
          record {
            beside = found.2.upper;
            below = blocks_nest old found.0 key false outside found.2.lower found.2.upper;
            within = λ outer side low high. branches_nest found.0 outer side (middle_of old) key found.2 low high;
          },
        ),
      )
]
