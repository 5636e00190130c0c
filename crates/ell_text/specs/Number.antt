use Rattle.std.specs.Prelude.{ℕ, ◌+◌, ◌-◌, ◌*◌, ◌^◌, ◌==◌, ◌&&◌, ◌≡◌, ◌≤◌, ◌++◌, Bool, true, false, not, List, [], ◌∷◌, length, nat_le, Result, Ok, Err, if◌then◌else◌}
use Rattle.std.specs.Char.{is_ascii_digit}
use Rattle.std.specs.List.{list_all}
use Rattle.ell_ops.specs.Meaning.{greatest_key}
use Rattle.ell_text.specs.declared.number.NumberFault.{NumberFault}
use Rattle.ell_text.specs.declared.number.NumberFault.TheVariants.{NotANumber, TooLarge}
use Rattle.ell_text.specs.Limits.{greatest_value}

-- the sum of the digits, each times the weight of its place
abbrev pub value_of : List ℕ → ℕ
value_of [] = 0
value_of (digit ∷ digits) = (digit - 48) * 10 ^ length digits + value_of digits

-- one digit or more, with no 0 in front of others
abbrev pub is_number : List ℕ → Bool
is_number [] = false
is_number (digit ∷ []) = is_ascii_digit digit
is_number (first ∷ second ∷ more) = is_ascii_digit first && not (first == 48) && list_all is_ascii_digit (second ∷ more)

-- the number of at most max that all of the bytes spell
abbrev pub number_in : ℕ → List ℕ → Result ℕ NumberFault
number_in max bytes = if is_number bytes then
    (if nat_le (value_of bytes) max then Ok (value_of bytes) else Err TooLarge) else Err NotANumber

-- the key that all of the bytes spell
abbrev pub key_in : List ℕ → Result ℕ NumberFault
key_in bytes = number_in greatest_key bytes

-- the value of a key that all of the bytes spell
abbrev pub key_spelled : List ℕ → Result ℕ NumberFault
key_spelled bytes = number_in greatest_value bytes

-- digits in front of the rest of some bytes spell a number of at most max
pub record IsNumberInFront (max : ℕ) (bytes : List ℕ) (number : ℕ) (rest : List ℕ) : Type 0 where
  pub digits : List ℕ
  pub cut : bytes ≡ digits ++ rest
  pub spelt : is_number digits ≡ true
  pub value : number_in max digits ≡ Ok number
  pub within : number ≤ max
