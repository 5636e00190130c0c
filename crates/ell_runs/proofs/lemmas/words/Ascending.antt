use Rattle.std.proofs.Common.{◌≡◌, ◌≢◌, ℕ, ◌<◌, ◌==◌, ◌||◌, eqb-true, ne_eqb, Bool, true, false, List, [], ◌∷◌, sym, ap, arith, refl, true≢false}
use Rattle.ell_ops.proofs.lemmas.Rising.{Over}
use Rattle.ell_ops.specs.KeySet.{set_of}

-- of numbers that are all greater, each is
pub over_among : (k : ℕ) (xs : List ℕ) (x : ℕ) → Over k xs → set_of xs x ≡ true → k < x
over_among k [] x h among = absurd (true≢false (sym among))
over_among k (y ∷ ys) x h among = by (x == y) refl among (over_among k ys x h.1)
  where
    by : (t : Bool) → (x == y) ≡ t → (t || set_of ys x) ≡ true → (set_of ys x ≡ true → k < x) → k < x
    by true e g rest = let same = eqb-true x y e in let less = h.0 in omega arith
    by false e g rest = rest g

-- a number that is not greater is not among them
pub not_among : (k : ℕ) (xs : List ℕ) → Over k xs → set_of xs k ≡ false
not_among k xs h = by (set_of xs k) refl
  where
    by : (t : Bool) → set_of xs k ≡ t → t ≡ false
    by true e = absurd (let less = over_among k xs k h e in omega arith)
    by false e = refl

-- of a list with one more, each other number is of the list
pub among_rest : (x : ℕ) (xs : List ℕ) (y : ℕ) → y ≢ x → set_of (x ∷ xs) y ≡ set_of xs y
among_rest x xs y n = ap (λ t. t || set_of xs y) (ne_eqb y x n)
