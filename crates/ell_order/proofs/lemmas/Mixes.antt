use Rattle.std.proofs.Common.{◌≡◌, ℕ, ◌*◌, ◌/◌, ◌%◌, ◌^◌, ◌<◌, ◌≤◌, arith, refl, ap, sym, ◌∙◌}
use Rattle.std.specs.Prelude.{bit_xor}
use Rattle.std.specs.Int.Bits.{xor_self, xor_zero_r, xor_shr, xor_assoc}
use Rattle.std.proofs.Math.Nat.{div-div-eq-div-mul, div-eq_of_lt, div-le_self, mod-eq_of_lt, mod-lt, mul_assoc, mul-one}
use Rattle.std.proofs.lemmas.Nat.{mul-mod_first, mul-mod_second, xor_lt}
use Rattle.ell_order.specs.Mixing.{folded, scaled, mixed, unmixed, first_factor, second_factor, first_inverse, second_inverse}

-- what a shift by 33 bits leaves of a number of 64 bits has nothing above 33 bits
nothing_above : (number : ℕ) → number < 2 ^ 64 → number / 2 ^ 33 / 2 ^ 33 ≡ 0
nothing_above number within =
    let small : number < 2 ^ 33 * 2 ^ 33 = omega arith in
    div-div-eq-div-mul number (2 ^ 33) (2 ^ 33) ∙ div-eq_of_lt small

-- folding twice is no change: the upper bits stay, and what they were xored with goes again
pub folded_twice : (number : ℕ) → number < 2 ^ 64 → folded (folded number) ≡ number
folded_twice number within =
    let high = number / 2 ^ 33 in
    let shifted : bit_xor number high / 2 ^ 33 ≡ high =
    xor_shr number high 33 ∙ ap (bit_xor high) (nothing_above number within) ∙ xor_zero_r high in
    ap (bit_xor (bit_xor number high)) shifted ∙ xor_assoc number high high ∙ ap (bit_xor number) (xor_self high) ∙ xor_zero_r number

pub folded_within : (number : ℕ) → number < 2 ^ 64 → folded number < 2 ^ 64
folded_within number within =
    let less : number / 2 ^ 33 ≤ number = div-le_self number (2 ^ 33) in
    let high : number / 2 ^ 33 < 2 ^ 64 = omega arith in
    xor_lt 64 number (number / 2 ^ 33) within high

pub scaled_within : (factor number : ℕ) → scaled factor number < 2 ^ 64
scaled_within factor number = let some : 0 < 2 ^ 64 = omega arith in mod-lt (number * factor) some

-- a product is undone by the factor's inverse
pub scaled_back : (factor inverse number : ℕ) → factor * inverse % 2 ^ 64 ≡ 1 → number < 2 ^ 64 → scaled inverse (scaled factor number) ≡ number
scaled_back factor inverse number one within =
    mul-mod_first (number * factor) inverse (2 ^ 64)
    ∙ ap (λ n. n % 2 ^ 64) (mul_assoc number factor inverse)
    ∙ sym (mul-mod_second number (factor * inverse) (2 ^ 64))
    ∙ ap (λ n. number * n % 2 ^ 64) one
    ∙ ap (λ n. n % 2 ^ 64) (mul-one number)
    ∙ mod-eq_of_lt within

-- all steps undone, from the last to the first
steps_back : (first first_back second second_back number : ℕ) → first * first_back % 2 ^ 64 ≡ 1 → second * second_back % 2 ^ 64 ≡ 1 → number < 2 ^ 64 →
    folded (scaled first_back (folded (scaled second_back (folded (folded (scaled second (folded (scaled first (folded number))))))))) ≡ number
steps_back first first_back second second_back number one another within =
    let begun = folded number in
    let once = scaled first begun in
    let turned = folded once in
    let twice = scaled second turned in
    ap (λ n. folded (scaled first_back (folded (scaled second_back n)))) (folded_twice twice (scaled_within second turned))
    ∙ ap (λ n. folded (scaled first_back (folded n))) (scaled_back second second_back turned another (folded_within once (scaled_within first begun)))
    ∙ ap (λ n. folded (scaled first_back n)) (folded_twice once (scaled_within first begun))
    ∙ ap folded (scaled_back first first_back begun one (folded_within number within))
    ∙ folded_twice number within

pub mixed_back : (key : ℕ) → key < 2 ^ 64 → unmixed (mixed key) ≡ key
unfolding mixed unmixed
mixed_back key within = steps_back first_factor first_inverse second_factor second_inverse key refl refl within

pub mixed_again : (number : ℕ) → number < 2 ^ 64 → mixed (unmixed number) ≡ number
unfolding mixed unmixed
mixed_again number within = steps_back second_inverse second_factor first_inverse first_factor number refl refl within

pub unmixed_within : (number : ℕ) → number < 2 ^ 64 → unmixed number < 2 ^ 64
unfolding unmixed
unmixed_within number within =
    folded_within (scaled first_inverse (folded (scaled second_inverse (folded number)))) (scaled_within first_inverse (folded (scaled second_inverse (folded number))))
