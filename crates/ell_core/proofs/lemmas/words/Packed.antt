use Rattle.std.proofs.Common.{◌≡◌, ℕ, zero, suc, ◌+◌, ◌*◌, ◌/◌, ◌%◌, ◌<◌, refl, ap, ◌∙◌, arith}
use Rattle.ell_word.specs.Word.{state_number, state_of, packed, unpacked}

-- the state's number is the remainder
number_again : (n : ℕ) → n < 4 → state_number (state_of n) ≡ n
number_again zero small = refl
number_again (suc zero) small = refl
number_again (suc (suc zero)) small = refl
number_again (suc (suc (suc n))) small = omega arith

-- a word is that of the update that it says
pub packed_again : (n : ℕ) → packed (unpacked n) ≡ n
packed_again n = ap (λ m. 4 * (n / 4) + m) (number_again (n % 4) (omega arith)) ∙ omega arith
