use Rattle.std.specs.Prelude.{ℕ, ◌*◌, ◌/◌, ◌%◌, ◌^◌, bit_xor}

-- a number with its upper 31 bits xored into its lower ones
abbrev pub folded : ℕ → ℕ
folded number = bit_xor number (number / 2 ^ 33)

-- a product in 64 bits
abbrev pub scaled : ℕ → ℕ → ℕ
scaled factor number = number * factor % 2 ^ 64

-- the two factors, which are odd, and what undoes them: of each pair the product is 1 in 64 bits
abbrev pub first_factor : ℕ
first_factor = 0xff51_afd7_ed55_8ccd

abbrev pub second_factor : ℕ
second_factor = 0xc4ce_b9fe_1a85_ec53

abbrev pub first_inverse : ℕ
first_inverse = 0x4f74_430c_22a5_4005

abbrev pub second_inverse : ℕ
second_inverse = 0x9cb4_b2f8_1293_37db

-- a number scrambled, by the finalizer of MurmurHash3 (Austin Appleby's `fmix64`)
unfoldable pub mixed : ℕ → ℕ
mixed number = folded (scaled second_factor (folded (scaled first_factor (folded number))))

-- the number that was scrambled
unfoldable pub unmixed : ℕ → ℕ
unmixed number = folded (scaled first_inverse (folded (scaled second_inverse (folded number))))
