-- Names that cards get with their numbers, one after the other.
use Rattle.std.specs.Prelude.{◌≡◌, ℕ, ◌+◌, ◌<◌, if◌then◌else◌, nat_lt}

-- names are below this, which is 2^61: a name has 35 bits of a generation above 26 bits of a slot
abbrev pub top_name : ℕ
top_name = 2305843009213693952

-- The cards below a count have the names that were given. A card that has none yet goes by a number above all names.
abbrev pub name_of : ℕ → (ℕ → ℕ) → ℕ → ℕ
name_of count given c = if nat_lt c count then given c else top_name + c

-- so many cards have these names, each one of its own; the card of the root is the first, and its name is its number
pub record AreNames (count : ℕ) (given : ℕ → ℕ) : Type 0 where
  pub some : 0 < count
  pub root : given 0 ≡ 0
  pub low : (c : ℕ) → c < count → given c < top_name
  pub apart : (c d : ℕ) → c < count → d < count → given c ≡ given d → c ≡ d
