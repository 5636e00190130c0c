use Rattle.std.proofs.Common.{◌≡◌, ◌≢◌, ℕ, zero, suc, ◌+◌, ◌<◌, List, [], ◌∷◌, ◌++◌, Some, length, set, take, drop, get_or, arith, refl, ap, sym, ◌∙◌, inl, inr, ◌⊎◌, ⊎_elim, length-set, get_or-set_same}
use Rattle.std.specs.Prelude.{slice_get}
use Rattle.std.specs.List.{flat_map}
use Rattle.std.proofs.lemmas.List.{flat_map_more, length-take, take_more}
use Rattle.std.proofs.lemmas.Option.{slice_get-get_or, slice_get_within}

-- below the length there is one
pub slice_get_below : {X : Type 0} (xs : List X) (i : ℕ) → i < length xs → (x : X) × (slice_get xs i ≡ Some x)
slice_get_below [] i below = absurd (omega arith)
slice_get_below (x ∷ xs) zero below = (x, refl)
slice_get_below (x ∷ xs) (suc i) below = slice_get_below xs i (omega arith)

-- of a list with more behind it
pub slice_get-append : {X : Type 0} (xs ys : List X) (i : ℕ) → i < length xs → slice_get (xs ++ ys) i ≡ slice_get xs i
slice_get-append [] ys i below = absurd (omega arith)
slice_get-append (x ∷ xs) ys zero below = refl
slice_get-append (x ∷ xs) ys (suc i) below = slice_get-append xs ys i (omega arith)

-- of a list with more before it
pub slice_get-append_behind : {X : Type 0} (xs ys : List X) (i : ℕ) → slice_get (xs ++ ys) (length xs + i) ≡ slice_get ys i
slice_get-append_behind [] ys i = ap (slice_get ys) (omega arith)
slice_get-append_behind (x ∷ xs) ys i =
    let same : suc (length xs) + i ≡ suc (length xs + i) = omega arith in
    ap (slice_get (x ∷ (xs ++ ys))) same ∙ slice_get-append_behind xs ys i

-- of two lists end to end: it is one of the first, or of the second
pub slice_get-append_cases : {X : Type 0} (xs ys : List X) (i : ℕ) (x : X) → slice_get (xs ++ ys) i ≡ Some x →
    ((i < length xs) × (slice_get xs i ≡ Some x)) ⊎ ((j : ℕ) × (i ≡ length xs + j) × (slice_get ys j ≡ Some x))
slice_get-append_cases [] ys i x e = inr (i, omega arith, e)
slice_get-append_cases (y ∷ xs) ys zero x e = inl (omega arith, e)
slice_get-append_cases (y ∷ xs) ys (suc i) x e =
    ⊎_elim
    (λ here. let below = here.0 in inl (omega arith, here.1))
    (λ there. let place = there.1 in inr (there.0, omega arith, there.2))
    (slice_get-append_cases xs ys i x e)

-- of a list with one more at its end
pub slice_get-push_cases : {X : Type 0} (xs : List X) (y : X) (i : ℕ) (x : X) → slice_get (xs ++ y ∷ []) i ≡ Some x →
    (slice_get xs i ≡ Some x) ⊎ ((i ≡ length xs) × (y ≡ x))
slice_get-push_cases [] y zero x e = inr (refl, cc)
slice_get-push_cases [] y (suc i) x e = absurd cc
slice_get-push_cases (first ∷ xs) y zero x e = inl e
slice_get-push_cases (first ∷ xs) y (suc i) x e =
    ⊎_elim (λ h. inl h) (λ h. inr (ap suc h.0, h.1)) (slice_get-push_cases xs y i x e)

-- between two lists
pub slice_get-seam : {X : Type 0} (xs : List X) (y : X) (ys : List X) → slice_get (xs ++ y ∷ ys) (length xs) ≡ Some y
slice_get-seam [] y ys = refl
slice_get-seam (x ∷ xs) y ys = slice_get-seam xs y ys

-- of a front, whose elements stand below its end
pub slice_get-take : {X : Type 0} (n : ℕ) (xs : List X) (i : ℕ) → i < n → slice_get (take n xs) i ≡ slice_get xs i
slice_get-take zero xs i below = absurd (omega arith)
slice_get-take (suc n) [] i below = refl
slice_get-take (suc n) (x ∷ xs) zero below = refl
slice_get-take (suc n) (x ∷ xs) (suc i) below = slice_get-take n xs i (omega arith)

pub slice_get_within_take : {X : Type 0} (n : ℕ) (xs : List X) (i : ℕ) (x : X) → slice_get (take n xs) i ≡ Some x → i < n
slice_get_within_take n xs i x e = omega (arith, slice_get_within (take n xs) i x e, length-take n xs)

pub slice_get_from_take : {X : Type 0} (n : ℕ) (xs : List X) (i : ℕ) (x : X) → slice_get (take n xs) i ≡ Some x → slice_get xs i ≡ Some x
slice_get_from_take n xs i x e = sym (slice_get-take n xs i (slice_get_within_take n xs i x e)) ∙ e

-- of what is behind a front
pub slice_get-drop : {X : Type 0} (n : ℕ) (xs : List X) (i : ℕ) → slice_get (drop n xs) i ≡ slice_get xs (n + i)
slice_get-drop zero xs i = ap (slice_get xs) (omega arith)
slice_get-drop (suc n) [] i = refl
slice_get-drop (suc n) (x ∷ xs) i =
    let same : suc (n + i) ≡ suc n + i = omega arith in
    slice_get-drop n xs i ∙ ap (slice_get (x ∷ xs)) same

-- of a list in which one place is written
pub slice_get-set_same : {X : Type 0} (xs : List X) (i : ℕ) (y : X) → i < length xs → slice_get (set xs i y) i ≡ Some y
slice_get-set_same xs i y below =
    slice_get-get_or (set xs i y) i y (rw (length-set xs i y) below) ∙ ap Some (get_or-set_same xs i y y below)

pub slice_get-set_other : {X : Type 0} (xs : List X) (i j : ℕ) (y : X) → j ≢ i → slice_get (set xs i y) j ≡ slice_get xs j
slice_get-set_other [] i j y other = refl
slice_get-set_other (x ∷ xs) zero zero y other = absurd (other refl)
slice_get-set_other (x ∷ xs) zero (suc j) y other = refl
slice_get-set_other (x ∷ xs) (suc i) zero y other = refl
slice_get-set_other (x ∷ xs) (suc i) (suc j) y other = slice_get-set_other xs i j y (λ e. other (ap suc e))

-- what a function gives of a front of one more element
pub flat_map-take_more : {X Y : Type 0} (f : X → List Y) (xs : List X) (i : ℕ) (d : X) → i < length xs →
    flat_map f (take (i + 1) xs) ≡ flat_map f (take i xs) ++ f (get_or xs i d)
flat_map-take_more f xs i d below = ap (flat_map f) (take_more xs i d below) ∙ sym (flat_map_more f [] (take i xs) (get_or xs i d))
