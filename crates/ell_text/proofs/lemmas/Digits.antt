use Rattle.std.proofs.Common.{◌≡◌, ◌<◌, ◌+◌, ◌-◌, ◌*◌, take, ap, ◌≤◌, ◌^◌, ℕ, Bool, true, false, ◌&&◌, not, ◌==◌, List, [], ◌∷◌, length, Result, Ok, Err, ◌∙◌, arith, rules, ⊎_elim, get_or}
use Rattle.std.specs.List.{list_all}
use Rattle.std.specs.Char.{is_ascii_digit}
use Rattle.std.specs.Str.{IsAscii}
use Rattle.std.specs.Option.{MatchOption}
use Rattle.std.specs.Result.{result_ok}
use Rattle.std.specs.Str.Parse.{ParsesUnsigned, digits_value}
use Rattle.std.proofs.lemmas.Bool.{and_parts, cases_lt, false≢true, leb-true}
use Rattle.std.proofs.lemmas.Str.Parse.{IsNumeralModel, numerals_by_weight, digit_at, parse_digits}
use Rattle.std.proofs.Math.Bool.{and-true}
use Rattle.std.proofs.lemmas.List.{get_or_default, get_or_past, take_more}
use Rattle.std.specs.Int.{IsInRange}
use Rattle.std.proofs.lemmas.List.Folds.{list_all-append}
use Rattle.std.proofs.lemmas.Int.Digits.{digits_value_more}
use Rattle.std.proofs.lemmas.Str.{digit_value_digit}
use Rattle.ell_text.specs.Number.{value_of, is_number}

-- the digits and their value are those of std's numerals
numerals : IsNumeralModel (λ digits. list_all is_ascii_digit digits ≡ true) value_of
numerals = numerals_by_weight _ (search rules) value_of (search rules)

without_middle : (a b c : Bool) → (a && b && c) ≡ true → (a && c) ≡ true
without_middle true true c h = h
without_middle true false c h = absurd (false≢true h)
without_middle false b c h = absurd (false≢true h)

-- a number is digits, and at least one
digits_from_number : (bytes : List ℕ) → is_number bytes ≡ true → list_all is_ascii_digit bytes ≡ true
digits_from_number [] h = absurd (false≢true h)
digits_from_number (digit ∷ []) h = and-true (is_ascii_digit digit) ∙ h
digits_from_number (first ∷ second ∷ more) h = without_middle _ (not (first == 48)) _ h

some_from_number : (bytes : List ℕ) → is_number bytes ≡ true → 0 < length bytes
some_from_number [] h = absurd (false≢true h)
some_from_number (digit ∷ more) h = omega arith

-- digits spell their value
pub value_by_digits : (bytes : List ℕ) → list_all is_ascii_digit bytes ≡ true → value_of bytes ≡ digits_value 10 bytes
value_by_digits bytes digits = numerals.same bytes (numerals.to bytes digits)

-- one digit more
pub digits_more : (bytes : List ℕ) (i : ℕ) → i < length bytes → is_ascii_digit (get_or bytes i 0) ≡ true → list_all is_ascii_digit (take i bytes) ≡ true
    → list_all is_ascii_digit (take (i + 1) bytes) ≡ true
digits_more bytes i within digit front =
    ap (list_all is_ascii_digit) (take_more bytes i 0 within)
    ∙ list_all-append is_ascii_digit (take i bytes) (get_or bytes i 0 ∷ [])
    ∙ ap (λ all. all && (is_ascii_digit (get_or bytes i 0) && true)) front
    ∙ ap (λ all. all && true) digit

pub value_more : (bytes : List ℕ) (i number digit next : ℕ) → i < length bytes → is_ascii_digit (get_or bytes i 0) ≡ true → number ≡ digits_value 10 (take i bytes)
    → digit ≡ get_or bytes i 0 - 48 → next ≡ number * 10 + digit → next ≡ digits_value 10 (take (i + 1) bytes)
value_more bytes i number digit next within is front byte step =
    let parts = and_parts _ _ is in
    let range : IsInRange 48 57 (get_or bytes i 0) = (leb-true 48 (get_or bytes i 0) parts.0, leb-true (get_or bytes i 0) 57 parts.1) in
    omega (arith, digits_value_more 10 bytes i within, digit_value_digit (get_or bytes i 0) range)

-- no byte of a number is below 48
pub number_at_least : (bytes : List ℕ) (i d : ℕ) → is_number bytes ≡ true → i < length bytes → 48 ≤ get_or bytes i d
number_at_least bytes i d spelt within =
    let digit : IsInRange 48 57 (get_or bytes i 0) = digit_at bytes i (numerals.to bytes (digits_from_number bytes spelt)) within in
    omega (arith, digit, get_or_default bytes i d 0 within)

-- digits are text
pub IsAscii-from_number : (bytes : List ℕ) → is_number bytes ≡ true → IsAscii bytes
IsAscii-from_number bytes h i = ⊎_elim
    (λ within.
    let digit : IsInRange 48 57 (get_or bytes i 0) = digit_at bytes i (numerals.to bytes (digits_from_number bytes h)) within in
    omega arith)
    (λ past. omega (arith, get_or_past bytes i 0 past))
    (cases_lt i (length bytes))

-- what std's `parse` answers to a number's digits
pub value_from_parse : {E : Type 0} (bytes : List ℕ) (r : Result ℕ E) → is_number bytes ≡ true → ParsesUnsigned 64 10 bytes r
    → MatchOption (result_ok r) (2 ^ 64 ≤ value_of bytes) (λ number. number ≡ value_of bytes)
value_from_parse {E = E} bytes (Ok number) is parses =
    let answer : Result ℕ E = Ok number in
    let read : ((0 < length bytes) × (value_of bytes < 2 ^ 64)) × (number ≡ value_of bytes) =
    parse_digits numerals 64 bytes answer parses (digits_from_number bytes is) in
    read.1
value_from_parse {E = E} bytes (Err e) is parses =
    let answer : Result ℕ E = Err e in
    let unread : (0 < length bytes) × (value_of bytes < 2 ^ 64) → ⊥ = parse_digits numerals 64 bytes answer parses (digits_from_number bytes is) in
    ⊎_elim (λ fits. absurd (unread (some_from_number bytes is, fits))) (λ over. over) (cases_lt (value_of bytes) (2 ^ 64))
