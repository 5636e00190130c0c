use Rattle.std.proofs.Common.{◌≡◌, ℕ, zero, suc, ◌≢◌, ◌⊎◌, List, [], ◌∷◌, ◌++◌, map, length, set, sym, refl, ap, inl, inr, ⊎_elim, arith}
use mathlib.Core.Option.{some, some-injective, some-ne-none}
use lib.ListN.{get_elem?}

-- what is at a place of a list in which one place was set
pub at_set : {A : Type 0} (l : List A) (i j : ℕ) (a b : A) → get_elem? (set l i a) j ≡ some b
    → ((j ≡ i) × (a ≡ b)) ⊎ ((j ≢ i) × (get_elem? l j ≡ some b))
at_set [] i j a b e = absurd (some-ne-none b (sym e))
at_set (x ∷ xs) zero zero a b e = inl (refl, some-injective a b e)
at_set (x ∷ xs) zero (suc j) a b e = inr ((λ h. omega arith), e)
at_set (x ∷ xs) (suc i) zero a b e = inr ((λ h. omega arith), e)
at_set (x ∷ xs) (suc i) (suc j) a b e =
    ⊎_elim (λ t. inl (ap suc t.0, t.1)) (λ t. let n = t.0 in inr ((λ h. n (omega arith)), t.1)) (at_set xs i j a b e)

-- at another place there is what there was
pub set_else : {A : Type 0} (l : List A) (i j : ℕ) (a : A) → j ≢ i → get_elem? (set l i a) j ≡ get_elem? l j
set_else [] i j a n = refl
set_else (x ∷ xs) zero zero a n = absurd (n refl)
set_else (x ∷ xs) zero (suc j) a n = refl
set_else (x ∷ xs) (suc i) zero a n = refl
set_else (x ∷ xs) (suc i) (suc j) a n = set_else xs i j a (λ e. n (ap suc e))

-- and so it is in a longer list
pub at_longer : {A : Type 0} (l m : List A) (i : ℕ) (a : A) → get_elem? l i ≡ some a → get_elem? (l ++ m) i ≡ some a
at_longer [] m i a e = absurd (some-ne-none a (sym e))
at_longer (x ∷ xs) m zero a e = e
at_longer (x ∷ xs) m (suc i) a e = at_longer xs m i a e

-- one more stands behind the others
pub at_last : {A : Type 0} (l : List A) (a : A) (n : ℕ) → length l ≡ n → get_elem? (l ++ a ∷ []) n ≡ some a
at_last [] a zero e = refl
at_last [] a (suc n) e = absurd (omega arith)
at_last (x ∷ xs) a zero e = absurd (omega arith)
at_last (x ∷ xs) a (suc n) e = at_last xs a n (omega arith)

pub at_snoc : {A : Type 0} (l : List A) (a b : A) (j : ℕ) → get_elem? (l ++ a ∷ []) j ≡ some b → (get_elem? l j ≡ some b) ⊎ (a ≡ b)
at_snoc [] a b zero e = inr (some-injective a b e)
at_snoc [] a b (suc j) e = absurd (some-ne-none b (sym e))
at_snoc (x ∷ xs) a b zero e = inl e
at_snoc (x ∷ xs) a b (suc j) e = at_snoc xs a b j e

-- a list that is mapped
pub at_map : {A B : Type 0} (f : A → B) (l : List A) (i : ℕ) (a : A) → get_elem? l i ≡ some a → get_elem? (map f l) i ≡ some (f a)
at_map f [] i a e = absurd (some-ne-none a (sym e))
at_map f (x ∷ xs) zero a e = ap (λ y. some (f y)) (some-injective x a e)
at_map f (x ∷ xs) (suc i) a e = at_map f xs i a e
