-- Stretches: words side by side, which one step lends to a seat, or takes from it, as one act.
use Rattle.std.specs.Prelude.{◌≡◌, ℕ, zero, suc, List, [], ◌∷◌, slice_set}
use mathlib.Core.Option.{Option, none, some}
use lib.ListN.{get_elem?}
use Rattle.atomic_table.specs.Table.{Act, keeps, takes, gives, chain}

-- the words from the address a on, each with its address and its content
abbrev pub stretch : ℕ → List ℕ → List (ℕ × ℕ)
stretch a [] = []
stretch a (y ∷ ys) = (a, y) ∷ stretch (suc a) ys

-- the words from a on are at home, with these contents
abbrev pub AreHome : List (Option ℕ) → ℕ → List ℕ → Type 0
AreHome homes a [] = Unit {0}
AreHome homes a (y ∷ ys) = (get_elem? homes a ≡ some (some y)) × AreHome homes (suc a) ys

-- the act that lends them to a seat
abbrev pub lends : ℕ → List ℕ → Act ℕ
lends a [] = keeps
lends a (y ∷ ys) = chain (lends (suc a) ys) (takes a y)

-- the act that takes from a seat so many words, which were lent to it last
abbrev pub returns : ℕ → Act ℕ
returns zero = keeps
returns (suc n) = chain gives (returns n)

-- what is at home without the words from a on, so many of them
abbrev pub without : List (Option ℕ) → ℕ → ℕ → List (Option ℕ)
without homes a zero = homes
without homes a (suc n) = slice_set (without homes (suc a) n) a none

-- what is at home with these from a on
abbrev pub with_these : List (Option ℕ) → ℕ → List ℕ → List (Option ℕ)
with_these homes a [] = homes
with_these homes a (y ∷ ys) = with_these (slice_set homes a (some y)) (suc a) ys
