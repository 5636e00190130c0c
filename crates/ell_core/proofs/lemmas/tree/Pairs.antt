use Rattle.std.proofs.Common.{◌≡◌, ◌≢◌, ℕ, zero, suc, ◌-◌, ◌+◌, ◌<◌, ◌≤◌, ◌⊎◌, inl, inr, ⊎_elim, eqb, true, List, [], ◌∷◌, ◌++◌, Contains, AllPairs, length, get_or, arith, refl, ap, sym, subst, ◌∙◌, length-append}
use Rattle.std.specs.List.{list_any}
use Rattle.std.specs.List.Sorted.{IsStrictlyIncreasing}
use Rattle.std.specs.Map.{keys_of}
use Rattle.std.proofs.lemmas.Bool.{cases_lt, eqb-true, or_cases}
use Rattle.std.proofs.lemmas.Bool.Decides.{Decides-eqb}
use Rattle.std.proofs.lemmas.List.{get_or_append_left, get_or-append_right, get_or-map}
use Rattle.std.proofs.lemmas.List.Elements.{Contains-get_or}
use Rattle.std.proofs.lemmas.Map.Entries.{length-keys_of}
use Rattle.std.proofs.lemmas.Map.Made.{IsDistinct-from_AllPairs}
use Rattle.std.proofs.lemmas.Map.Steps.{length-le_from_distinct_below}

-- an empty list contains nothing
pub Contains-none : {X : Type 0} (x : X) → Contains [] x → ⊥
Contains-none x h = absurd (omega (arith, h.1))

-- the first element is contained
pub Contains-first : {X : Type 0} (x : X) (xs : List X) → Contains (x ∷ xs) x
Contains-first x xs = (0, omega arith, refl)

-- what the rest of a list contains, the list contains
pub Contains-later : {X : Type 0} (x : X) (xs : List X) (y : X) → Contains xs y → Contains (x ∷ xs) y
Contains-later x xs y h = (suc h.0, omega (arith, h.1), h.2)

-- an element of a list is the first one or is in the rest
pub Contains-cons_cases : {X : Type 0} (x : X) (xs : List X) (y : X) → Contains (x ∷ xs) y → (x ≡ y) ⊎ Contains xs y
Contains-cons_cases {X} x xs y h = at h.0 h.1 h.2
  where
    at : (k : ℕ) → k < suc (length xs) → get_or (x ∷ xs) k y ≡ y → (x ≡ y) ⊎ Contains xs y
    at zero below e = inl e
    at (suc k) below e = inr (k, omega arith, e)

-- the key of a pair of a list is among the keys
pub Contains-keys_of : (pairs : List (ℕ × ℕ)) (key value : ℕ) → Contains pairs (key, value) → Contains (keys_of pairs) key
Contains-keys_of pairs key value h =
    (h.0, omega (arith, length-keys_of pairs, h.1), get_or-map (λ e. e.0) pairs h.0 (key, value) key h.1 ∙ ap (λ e. e.0) h.2)

-- each of the keys has a value
pub Contains-from_keys_of : (pairs : List (ℕ × ℕ)) (key : ℕ) → Contains (keys_of pairs) key → (value : ℕ) × Contains pairs (key, value)
Contains-from_keys_of [] key h = absurd (Contains-none key h)
Contains-from_keys_of (e ∷ es) key h = ⊎_elim
    (λ here. (e.1, subst (λ k. Contains (e ∷ es) (k, e.1)) here (Contains-first e es)))
    (λ later. let found = Contains-from_keys_of es key later in (found.0, Contains-later e es (key, found.0) found.1))
    (Contains-cons_cases e.0 (keys_of es) key h)

-- where each pair's key is less than those of the later pairs, the keys ascend
pub IsStrictlyIncreasing-keys_of : (pairs : List (ℕ × ℕ)) → AllPairs (λ a b. a.0 < b.0) pairs → IsStrictlyIncreasing (keys_of pairs)
IsStrictlyIncreasing-keys_of pairs apart k below =
    let long = length-keys_of pairs in
    subst (λ x. x < get_or (keys_of pairs) (k + 1) 0) (sym (get_or-map (λ e. e.0) pairs k (0, 0) 0 (omega arith)))
    (subst (λ y. (get_or pairs k (0, 0)).0 < y) (sym (get_or-map (λ e. e.0) pairs (k + 1) (0, 0) 0 (omega arith)))
    (apart k (k + 1) (0, 0) (omega arith) (omega arith)))

-- no list has a pair before it has an element
pub AllPairs-none : {X : Type 0} (R : X → X → Type 0) → AllPairs R []
AllPairs-none R i j d before below = absurd (omega arith)

-- the pairs of two joined lists: those of each, and each element of the first with each of the second
pub AllPairs-append : {X : Type 0} (R : X → X → Type 0) (xs ys : List X) → AllPairs R xs → AllPairs R ys →
    ((x y : X) → Contains xs x → Contains ys y → R x y) → AllPairs R (xs ++ ys)
AllPairs-append R xs ys first second across i j d before below =
    let long = length-append xs ys in
    ⊎_elim
    (λ j_first. subst (λ y. R (get_or (xs ++ ys) i d) y) (sym (get_or_append_left xs ys d j j_first))
    (subst (λ x. R x (get_or xs j d)) (sym (get_or_append_left xs ys d i (omega arith))) (first i j d before j_first)))
    (λ j_second. subst (λ y. R (get_or (xs ++ ys) i d) y) (sym (get_or-append_right xs ys (length xs) j d refl j_second))
    (⊎_elim
    (λ i_first. subst (λ x. R x (get_or ys (j - length xs) d)) (sym (get_or_append_left xs ys d i i_first))
    (across (get_or xs i d) (get_or ys (j - length xs) d) (Contains-get_or xs i d i_first) (Contains-get_or ys (j - length xs) d (omega arith))))
    (λ i_second. subst (λ x. R x (get_or ys (j - length xs) d)) (sym (get_or-append_right xs ys (length xs) i d refl i_second))
    (second (i - length xs) (j - length xs) d (omega arith) (omega arith)))
    (cases_lt i (length xs))))
    (cases_lt j (length xs))

-- one element has no pair
pub AllPairs-single : {X : Type 0} (R : X → X → Type 0) (x : X) → AllPairs R (x ∷ [])
AllPairs-single R x i j d before below = absurd (omega arith)

-- the pairs with one more element before the list
pub AllPairs-cons : {X : Type 0} (R : X → X → Type 0) (x : X) (xs : List X) → ((y : X) → Contains xs y → R x y) → AllPairs R xs → AllPairs R (x ∷ xs)
AllPairs-cons R x xs head rest = AllPairs-append R (x ∷ []) xs (AllPairs-single R x) rest
    (λ first y in_first in_rest. ⊎_elim
    (λ e. subst (λ z. R z y) e (head y in_rest))
    (λ none. absurd (Contains-none first none))
    (Contains-cons_cases x [] first in_first))

-- a list that passes the test of equality with a number contains the number
pub Contains-from_list_any : (xs : List ℕ) (q : ℕ) → list_any (eqb q) xs ≡ true → Contains xs q
Contains-from_list_any [] q e = absurd cc
Contains-from_list_any (x ∷ xs) q e = ⊎_elim
    (λ here. subst (Contains (x ∷ xs)) (sym (eqb-true q x here)) (Contains-first x xs))
    (λ later. Contains-later x xs q (Contains-from_list_any xs q later))
    (or_cases (eqb q x) (list_any (eqb q) xs) e)

-- numbers below n of which no two are equal are at most n
pub length-le_from_apart : (xs : List ℕ) (n : ℕ) → AllPairs (λ x y. x ≢ y) xs → ((q : ℕ) → Contains xs q → q < n) → length xs ≤ n
length-le_from_apart xs n apart below =
    length-le_from_distinct_below xs n (IsDistinct-from_AllPairs Decides-eqb xs apart) (λ q e. below q (Contains-from_list_any xs q e))
