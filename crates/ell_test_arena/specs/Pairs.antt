-- Words of an arena in pairs. The word 0, the mark, is the address of the first word that nobody has begun. The word
-- 1, the door, is the address of a pair that is shared. Whoever moves the mark has a pair as plain memory, fills it,
-- and shares it as he makes it the door.
use Rattle.std.specs.Prelude.{◌≡◌, ◌≢◌, ℕ, suc, ◌^◌, ◌<◌, ◌≤◌, List, [], ◌∷◌, length}
use mathlib.Core.Option.{Option, some}
use lib.ListN.{get_elem?}
use Rattle.atomic_table.specs.Table.{Step, rest}
use Rattle.ell_arena.specs.Words.{State, Me, IsShared}
use Rattle.ell_arena.specs.declared.shared.Seat.{Seat}
use Rattle.ell_arena.specs.declared.words.Words.{Words}
use Rattle.ell_test_arena.specs.declared.pairs.PairRule.{PairRule}
use Rattle.ell_test_arena.specs.declared.pairs.Known.{Known}

-- some number is shared at an address
abbrev pub HasWord : List (Option ℕ) → ℕ → Type 0
HasWord homes a = (n : ℕ) × IsShared homes a n

-- a pair is shared
abbrev pub IsPair : List (Option ℕ) → ℕ → Type 0
IsPair homes a = HasWord homes a × HasWord homes (suc a)

-- all words from the mark on are unwritten
abbrev pub IsFreshFrom : List (Option ℕ) → ℕ → Type 0
IsFreshFrom homes mark = (a : ℕ) → mark ≤ a → a < length homes → get_elem? homes a ≡ some (some 0)

-- what a seat knows is so
abbrev pub IsTrue : List (Option ℕ) → ℕ → Known → Type 0
IsTrue homes mark v = IsPair homes v.pair × (v.reached ≤ mark)

-- the same of all seats
abbrev pub AreTrue : List (Option ℕ) → ℕ → List Known → Type 0
AreTrue homes mark views = (k : ℕ) (v : Known) → get_elem? views k ≡ some v → IsTrue homes mark v

-- the rule, where the mark and the door are these
pub record Stands (count : ℕ) (homes : List (Option ℕ)) (views : List Known) (mark door : ℕ) : Type 0 where
  pub long : length homes ≡ count
  pub marked : IsShared homes 0 mark
  pub low : 2 ≤ mark
  pub high : mark ≤ count
  pub fresh : IsFreshFrom homes mark
  pub opens : IsShared homes 1 door
  pub pair : IsPair homes door
  pub true_views : AreTrue homes mark views

-- the rule of so many words
abbrev pub HoldsPairs : ℕ → State Known → Type 0
HoldsPairs count s = (mark : ℕ) × (door : ℕ) × Stands count s.homes s.views mark door

-- what is known at the start: the mark and the door are a pair
abbrev pub first_known : ℕ → Known
first_known count = record { pair = 0; reached = 2 }

-- what a load of the mark tells: where it is, at least 2, and nothing changes
abbrev pub MarkFound : Step ℕ → Me Known → ℕ → Me Known → Type 0
MarkFound step old found new = (2 ≤ found) × (new ≡ old)

-- what an exchange of the mark tells: who has won has a pair that nobody has written, and who has lost nothing
abbrev pub PairTaken : Step ℕ → Me Known → ℕ → Me Known → Type 0
PairTaken step old found new =
    (found ≡ step.first → new ≡ (
      record { pair = old.0.pair; reached = step.second },
      (step.first, 0) ∷ (suc step.first, 0) ∷ old.1,
    ))
    × (found ≢ step.first → new ≡ old)

-- what a store to the door tells: the pair that was taken last is shared, and the seat knows it
abbrev pub PairShared : Step ℕ → Me Known → ℕ → Me Known → Type 0
PairShared step old found new = new ≡ (record { pair = step.first; reached = old.0.reached }, rest (rest old.1))

-- what a load of the door tells: the seat knows the pair there
abbrev pub DoorFound : Step ℕ → Me Known → ℕ → Me Known → Type 0
DoorFound step old found new = new ≡ (record { pair = found; reached = old.0.reached }, old.1)

-- what a step on a shared pair tells: nothing changes for the seat
abbrev pub Unchanged : Step ℕ → Me Known → ℕ → Me Known → Type 0
Unchanged step old found new = new ≡ old

-- the rule has the number of these words, which is at least 2, and below 2^40
abbrev pub IsSized : Words Known ℕ PairRule → Type 0
IsSized words = (words.shared.key ≡ words.shared.id.count) × (2 ≤ words.shared.id.count)
    × (words.shared.id.count < 2 ^ 40)

-- the seat is one of these words, and this is lent to it
abbrev pub IsOurs : Words Known ℕ PairRule → Seat Known → List (ℕ × ℕ) → Type 0
IsOurs words seat lent = IsSized words × (seat.words ≡ words.shared.id) × (seat.me.1 ≡ lent)

-- a pair is lent to the seat, above the mark and the door, and the mark is past it; its words have these contents
abbrev pub HasPair : Words Known ℕ PairRule → Seat Known → ℕ → ℕ → ℕ → Type 0
HasPair words seat a y z = IsOurs words seat ((a, y) ∷ (suc a, z) ∷ []) × (2 ≤ a)
    × (suc a < words.shared.id.count) × (suc (suc a) ≤ seat.me.0.reached)

-- the seat knows a shared pair above the mark and the door
abbrev pub KnowsPair : Words Known ℕ PairRule → Seat Known → ℕ → Type 0
KnowsPair words seat a = IsOurs words seat [] × (2 ≤ a) × (suc a < words.shared.id.count) × (seat.me.0.pair ≡ a)
