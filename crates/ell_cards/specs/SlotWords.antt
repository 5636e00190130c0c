use Rattle.std.specs.Prelude.{ℕ, zero, suc, ◌+◌, ◌*◌, ◌/◌, ◌%◌, ◌==◌, ◌&&◌, ◌||◌, nat_le, nat_lt, not, if◌then◌else◌, Bool, false, Option, Some, None}
use Rattle.ell_word.specs.Node.{generation_size}

-- The slot in which a card lies, and its generation: of the card numbers of a generation each slot has one.
abbrev pub slot_of : ℕ → ℕ
slot_of c = c % generation_size

abbrev pub generation_of : ℕ → ℕ
generation_of c = c / generation_size

-- How many generations child words tell apart, which hold the low 10 bits of a generation: of two generations that are
-- a multiple of this apart they hold the same.
abbrev pub generations_told_apart : ℕ
generations_told_apart = 1024

-- whether a generation is the first one, or one that child words tell from the first
abbrev pub has_slots : ℕ → Bool
has_slots generation = generation == 0 || not (generation % generations_told_apart == 0)

-- whether a number has a slot in a table with these slots: its slot is one of the table, up to the last one, and its
-- generation is the first one, or one that child words tell from the first
abbrev pub has_slot_in : ℕ → ℕ → Bool
has_slot_in last c = nat_le (slot_of c) last && has_slots (generation_of c)

-- The word of a slot that is in use says which of the three nodes of its card are not known to be dead, a bit each, and
-- of which generation that card is. Once all three are dead, and the slot is set free, the word has none of the bits,
-- and the retire epoch with which that was done: then it no longer tells which card lay there. So the word 0 is that of
-- a slot that is free from the start.
abbrev pub generation_in : ℕ → ℕ
generation_in n = n / 8

abbrev pub retire_epoch_in : ℕ → ℕ
retire_epoch_in n = n / 8

abbrev pub free_word : ℕ → ℕ
free_word epoch = 8 * epoch

-- the word of a slot that was just taken: none of the three nodes is dead
abbrev pub taken_word : ℕ → ℕ
taken_word generation = 8 * generation + 7

-- whether a node of the card, by its place among the three, is retired
abbrev pub is_retired : ℕ → ℕ → Bool
is_retired n zero = n % 2 == 0
is_retired n (suc zero) = n / 2 % 2 == 0
is_retired n (suc (suc zero)) = n / 4 % 2 == 0
is_retired n (suc (suc (suc k))) = false

-- the card that lies in a slot in use, by the slot's word
abbrev pub card_by : ℕ → ℕ → ℕ
card_by slot n = generation_size * generation_in n + slot

-- the retire epoch with which a word sets its slot free, if it does
abbrev pub freed_by : ℕ → Option ℕ
freed_by n = if n % 8 == 0 then Some (retire_epoch_in n) else None

-- whether a pass with a safe epoch could take a slot, by the slot's word: that was set free with a retire epoch below
-- the safe epoch
abbrev pub could_take : ℕ → ℕ → Bool
could_take n safe_epoch = n % 8 == 0 && nat_lt (retire_epoch_in n) safe_epoch
