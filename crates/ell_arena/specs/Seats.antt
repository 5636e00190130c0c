-- What a seat has: the words that are lent to it, each with its address and its content, which is 0 where nothing has
-- been written, and n + 1 where n has.
use Rattle.std.specs.Prelude.{◌≡◌, ℕ, suc, List, [], ◌∷◌, slice_set}
use mathlib.Core.Option.{some}
use lib.ListN.{get_elem?}
use lib.Dec.{eqb}
use prog.Atomic.{either}
use Rattle.ell_arena.specs.declared.shared.Seat.{Seat}

-- a seat of the same words, with the same number
abbrev pub SameSeat : {V : Type 0} → Seat V → Seat V → Type 0
SameSeat old new = (new.words ≡ old.words) × (new.id ≡ old.id)

-- where the word at an address stands among those that are lent
abbrev pub place_of : List (ℕ × ℕ) → ℕ → ℕ
place_of [] a = 0
place_of (x ∷ xs) a = either (eqb x.0 a) 0 (suc (place_of xs a))

-- the word at an address is lent, and this is its content
abbrev pub HasContent : List (ℕ × ℕ) → ℕ → ℕ → Type 0
HasContent lent a y = get_elem? lent (place_of lent a) ≡ some (a, y)

-- the word at an address is lent
abbrev pub IsLent : List (ℕ × ℕ) → ℕ → Type 0
IsLent lent a = (y : ℕ) × HasContent lent a y

-- the word at an address is lent, and n was written to it last
abbrev pub IsLentAs : List (ℕ × ℕ) → ℕ → ℕ → Type 0
IsLentAs lent a n = HasContent lent a (suc n)

-- the word at an address is lent, and something has been written to it
abbrev pub IsWritten : List (ℕ × ℕ) → ℕ → Type 0
IsWritten lent a = (n : ℕ) × IsLentAs lent a n

-- the words that are lent, after n was written to the one at an address
abbrev pub after_put : List (ℕ × ℕ) → ℕ → ℕ → List (ℕ × ℕ)
after_put lent a n = slice_set lent (place_of lent a) (a, suc n)
