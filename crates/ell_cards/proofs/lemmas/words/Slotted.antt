-- What it is for a number to have a slot.
use Rattle.std.proofs.Common.{◌≡◌, ◌≢◌, ℕ, ◌%◌, ◌≤◌, ◌⊎◌, true, inl, inr, arith}
use Rattle.std.proofs.lemmas.Bool.Decides.{nat_tests}
use Rattle.std.proofs.lemmas.Bool.{cases_eq}
use Rattle.ell_cards.specs.SlotWords.{card_by, has_slot_in, slot_of, generation_of, taken_word, generations_told_apart}

-- its slot is one of the table
pub slot_inside : (last c : ℕ) → has_slot_in last c ≡ true → slot_of c ≤ last
slot_inside last c has = grind (arith, nat_tests)

-- a generation that is the first one, or that child words tell from it
pub generation_apart : (last c : ℕ) → has_slot_in last c ≡ true → generation_of c % generations_told_apart ≡ 0 → generation_of c ≡ 0
generation_apart last c has low = grind (arith, nat_tests)

-- and where both are so, the number has a slot
pub has_slot_by : (last c : ℕ) → slot_of c ≤ last → (generation_of c % generations_told_apart ≡ 0 → generation_of c ≡ 0) → has_slot_in last c ≡ true
has_slot_by last c inside apart = by (cases_eq (generation_of c % generations_told_apart) 0)
  where
    by : (generation_of c % generations_told_apart ≡ 0) ⊎ (generation_of c % generations_told_apart ≢ 0) → has_slot_in last c ≡ true
    by (inl low) = (let first = apart low in grind (arith, nat_tests))
    by (inr other) = grind (arith, nat_tests)

-- a number is that of the card in its slot at its generation
pub card_there : (c slot generation : ℕ) → slot ≡ slot_of c → generation ≡ generation_of c → card_by slot (taken_word generation) ≡ c
card_there c slot generation at is = omega (arith, at, is)
