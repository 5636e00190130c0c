-- There are as many cards as names at most: so where the next card gets a name that no card has, its number is one that a card may have.
use Rattle.std.proofs.Common.{◌≡◌, ◌≢◌, ℕ, zero, suc, ◌+◌, ◌<◌, ◌≤◌, ◌==◌, false, List, [], ◌∷◌, length, refl, arith, ne_eqb}
use Rattle.std.specs.List.{IsDistinct, AllByRecursion}
use Rattle.std.proofs.lemmas.Map.Keys.{IsDistinct-cons}
use Rattle.ell_word.specs.Node.{greatest_number}
use Rattle.ell_layout.specs.Words.{put}
use Rattle.ell_runs.specs.Names.{AreNames, top_name}
use Rattle.ell_runs.proofs.lemmas.named.Names.{names_grow}
use Rattle.ell_cards.proofs.lemmas.refinement.Few.{few_mapped}

-- the numbers below one, the greatest first
abbrev numbers : ℕ → List ℕ
numbers zero = []
numbers (suc n) = n ∷ numbers n

-- they are as many as that one
numbers_long : (n : ℕ) → length (numbers n) ≡ n
numbers_long zero = refl
numbers_long (suc n) = (let rest = numbers_long n in omega arith)

-- each is another than those that are less
others_below : (c n : ℕ) → n ≤ c → AllByRecursion (λ d. (c == d) ≡ false) (numbers n)
others_below c zero h = tt
others_below c (suc n) h = (ne_eqb c n (λ e. omega (arith, e, h)), others_below c n (omega arith))

numbers_apart : (n : ℕ) → IsDistinct (λ c d. c == d) (numbers n)
unfolding IsDistinct
numbers_apart zero = tt
numbers_apart (suc n) = IsDistinct-cons (λ c d. c == d) n (numbers n) (others_below n n (omega arith)) (numbers_apart n)

-- and less than that one
numbers_below : (m n : ℕ) → n ≤ m → AllByRecursion (λ c. c < m) (numbers n)
numbers_below m zero h = tt
numbers_below m (suc n) h = (omega arith, numbers_below m n (omega arith))

-- so many cards with names of their own are at most as many as names
pub cards_are_few : (count : ℕ) (given : ℕ → ℕ) → AreNames count given → count ≤ top_name
cards_are_few count given are =
    let few = few_mapped given (λ c. c < count) (λ c d p q e. are.apart c d p q e) top_name (numbers count)
    (numbers_below count count (omega arith)) are.low (numbers_apart count) in
    let long = numbers_long count in
    omega arith

-- the number of the next card is one that a table may give out, and less than what cards without names go by
pub next_has_room : (count : ℕ) (given : ℕ → ℕ) → AreNames count given → (new : ℕ) → new < top_name
    → ((c : ℕ) → c < count → given c ≢ new) → (count < top_name) × (count ≤ greatest_number)
next_has_room count given are new small fresh =
    let few = cards_are_few (count + 1) (put given count new) (names_grow count given are new small fresh) in (omega (arith, few), omega (arith, few))
