use Rattle.std.proofs.Common.{◌≡◌, ◌≢◌, ℕ, zero, suc, ◌+◌, ◌*◌, ◌<◌, ◌≤◌, ◌==◌, ◌&&◌, not, Bool, true, false, List, [], ◌∷◌, ◌++◌, length, refl, ap, ◌∙◌, eq-eqb, length-append, inl, inr, arith}
use Rattle.std.proofs.lemmas.Bool.{cases_eq, and_parts, eqb-true}
use Rattle.ell_runs.specs.Contention.{how_many}
use Rattle.ell_runs.proofs.lemmas.runs.HowMany.{one, many_most, sum_of, sum_both}

-- the same without one number
abbrev but_one : (ℕ → Bool) → ℕ → ℕ → Bool
but_one so x e = so e && not (x == e)

out : (so : ℕ → Bool) (x : ℕ) → but_one so x x ≡ false
out so x = ap (λ b. so x && not b) (eq-eqb x x refl) ∙ none (so x)
  where
    none : (b : Bool) → (b && false) ≡ false
    none true = refl
    none false = refl

still : (so : ℕ → Bool) (x e : ℕ) → so e ≡ true → x ≢ e → but_one so x e ≡ true
still so x e is other = ap (λ b. b && not (x == e)) is ∙ apart (x == e) refl
  where
    apart : (b : Bool) → (x == e) ≡ b → not b ≡ true
    apart true h = absurd (other (eqb-true x e h))
    apart false h = refl

-- one number more is mapped
one_mapped : (n m : ℕ) (from to : ℕ → Bool) (f : ℕ → ℕ) → ((c : ℕ) → c < suc n → from c ≡ true → (f c < m) × (to (f c) ≡ true))
    → ((c d : ℕ) → from c ≡ true → from d ≡ true → f c ≡ f d → c ≡ d)
    → ((target : ℕ → Bool) → ((c : ℕ) → c < n → from c ≡ true → (f c < m) × (target (f c) ≡ true)) → how_many n from ≤ how_many m target)
    → (b : Bool) → from n ≡ b → one (from n) + how_many n from ≤ how_many m to
one_mapped n m from to f goes apart rest false e =
    let others = rest to (λ c low. goes c (omega arith)) in
    let no = ap one e in
    omega arith
one_mapped n m from to f goes apart rest true e =
    let target = goes n (omega arith) e in
    let others = rest (but_one to (f n)) (λ c low is. (let h = goes c (omega arith) is in
    (h.0, still to (f n) (f c) h.1 (λ same. (let equal = apart n c e is same in omega arith))))) in
    let less = many_most m m (but_one to (f n)) to (omega arith) (λ c low h. (and_parts (to c) (not (f n == c)) h).0) (f n) target.0 target.1 (λ low. out to (f n)) in
    let yes = ap one e in
    omega arith

-- what is mapped one to one is no more than where it is mapped to
pub one_to_one : (n m : ℕ) (from to : ℕ → Bool) (f : ℕ → ℕ) → ((c : ℕ) → c < n → from c ≡ true → (f c < m) × (to (f c) ≡ true))
    → ((c d : ℕ) → from c ≡ true → from d ≡ true → f c ≡ f d → c ≡ d) → how_many n from ≤ how_many m to
one_to_one zero m from to f goes apart = omega arith
one_to_one (suc n) m from to f goes apart =
    one_mapped n m from to f goes apart (λ target h. one_to_one n m from target f h apart) (from n) refl

-- one of a sum is no more than the sum
one_of_sum : (n : ℕ) (f : ℕ → ℕ) (k : ℕ) → k < n → f k ≤ sum_of n f
one_of_sum zero f k low = absurd (omega arith)
one_of_sum (suc n) f k low = elim (cases_eq k n) [
  | inl e ↦ (let same = ap f e in omega arith)
  | inr other ↦ (let rest = one_of_sum n f k (omega arith) in omega arith)
]

-- what is on one of some levels is no more than what is on them together
pub on_levels : (n levels : ℕ) (so : ℕ → Bool) (on : ℕ → ℕ → Bool) → ((c : ℕ) → so c ≡ true → (k : ℕ) × (k < levels) × (on k c ≡ true))
    → how_many n so ≤ sum_of levels (λ k. how_many n (on k))
on_levels zero levels so on h = omega arith
on_levels (suc n) levels so on h =
    let both = sum_both levels (λ k. one (on k n)) (λ k. how_many n (on k)) in
    let rest = on_levels n levels so on h in
    let first = by (so n) refl in
    omega arith
  where
    by : (b : Bool) → so n ≡ b → one (so n) ≤ sum_of levels (λ k. one (on k n))
    by false e = let no = ap one e in omega arith
    by true e =
        let level = h n e in
        let yes = ap one e in
        let is = ap one level.2 in
        let part = one_of_sum levels (λ k. one (on k n)) level.0 level.1 in
        omega arith

-- where no level has more than this
pub sum_most : (levels most : ℕ) (f : ℕ → ℕ) → ((k : ℕ) → f k ≤ most) → sum_of levels f ≤ levels * most
sum_most zero most f h = omega arith
sum_most (suc n) most f h =
    let first = h n in
    let rest = sum_most n most f h in
    let next : suc n * most ≡ most + n * most = omega arith in
    omega arith

pub sum_is : (n : ℕ) (so : ℕ → Bool) → sum_of n (λ c. one (so c)) ≡ how_many n so
sum_is zero so = refl
sum_is (suc n) so = let rest = sum_is n so in omega arith

pub none_so : (n : ℕ) (so : ℕ → Bool) → ((c : ℕ) → so c ≡ false) → how_many n so ≡ 0
none_so zero so h = refl
none_so (suc n) so h = let rest = none_so n so h in let no = ap one (h n) in omega arith

-- the last step of a path aside
abbrev after_first : List Bool → List Bool
after_first [] = []
after_first (b ∷ bs) = bs

abbrev first_or : Bool → List Bool → Bool
first_or a [] = a
first_or a (b ∷ bs) = b

pub before_last_same : (p q : List Bool) (a b : Bool) → p ++ a ∷ [] ≡ q ++ b ∷ [] → p ≡ q
before_last_same [] [] a b e = refl
before_last_same [] (x ∷ q) a b e = let long = ap length e in let more = length-append q (b ∷ []) in absurd (omega arith)
before_last_same (x ∷ p) [] a b e = let long = ap length e in let more = length-append p (a ∷ []) in absurd (omega arith)
before_last_same (x ∷ p) (y ∷ q) a b e =
    let rest = before_last_same p q a b (ap after_first e) in
    let head = ap (first_or x) e in
    λ i. head i ∷ rest i
