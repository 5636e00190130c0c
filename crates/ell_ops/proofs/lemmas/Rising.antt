use Rattle.std.proofs.Common.{◌≡◌, ℕ, zero, suc, ◌+◌, ◌<◌, List, [], ◌∷◌, length, get_or, subst, arith}
use Rattle.std.specs.List.Sorted.{IsStrictlyIncreasing}
use Rattle.std.proofs.lemmas.List.Kept.{AllPairs-from_increasing}

-- all of them are greater than k
abbrev pub Over : ℕ → List ℕ → Type 0
Over k [] = Unit {0}
Over k (x ∷ xs) = (k < x) × Over k xs

-- they rise
abbrev pub Rises : List ℕ → Type 0
Rises [] = Unit {0}
Rises (x ∷ xs) = Over x xs × Rises xs

over_each : (k : ℕ) (xs : List ℕ) → ((i : ℕ) → i < length xs → k < get_or xs i 0) → Over k xs
over_each k [] h = tt
over_each k (x ∷ xs) h = (h 0 (omega arith), over_each k xs (λ i low. h (suc i) (omega arith)))

-- an ascending list rises, and a list that rises ascends
pub rises : (xs : List ℕ) → IsStrictlyIncreasing xs → Rises xs
rises [] h = tt
rises (x ∷ xs) h = (
  over_each x xs (λ i low. AllPairs-from_increasing (x ∷ xs) h 0 (suc i) 0 (omega arith) (omega arith)),
  rises xs (λ i low. AllPairs-from_increasing (x ∷ xs) h (suc i) (suc (i + 1)) 0 (omega arith) (omega arith)),
)

pub ascends : (xs : List ℕ) → Rises xs → IsStrictlyIncreasing xs
ascends [] h i low = absurd (omega arith)
ascends (x ∷ []) h i low = absurd (omega arith)
ascends (x ∷ y ∷ xs) h zero low = h.0.0
ascends (x ∷ y ∷ xs) h (suc i) low =
    let e : suc (i + 1) ≡ suc i + 1 = omega arith in
    subst (λ n. get_or (y ∷ xs) i 0 < get_or (x ∷ y ∷ xs) n 0) e (ascends (y ∷ xs) h.1 i (omega arith))

-- what is greater than a greater number
pub over_less : (j k : ℕ) (xs : List ℕ) → j < k → Over k xs → Over j xs
over_less j k [] less h = tt
over_less j k (x ∷ xs) less h = let more = h.0 in (omega arith, over_less j k xs less h.1)
