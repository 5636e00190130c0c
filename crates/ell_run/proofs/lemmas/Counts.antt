use Rattle.std.proofs.Common.{◌≡◌, ℕ, ◌+◌, ◌-◌, ◌/◌, ◌^◌, ◌<◌, ◌≤◌, List, [], get_or, length, map, take, take_all, min, max, sum_by, arith, refl, ap, sym, ◌∙◌, ⊎_elim}
use Rattle.std.proofs.Math.Nat.{div-eq_of_lt}
use Rattle.std.proofs.lemmas.Bool.{cases_lt}
use Rattle.std.proofs.lemmas.List.{ext_get_or, get_or-map, length-map}
use Rattle.std.proofs.lemmas.List.Sums.{sum_by_more}
use Rattle.ell_run.specs.Reservation.{lost}

-- a sum of the first of some elements, as far as it fits
abbrev pub summed : {X : Type 0} → (X → ℕ) → List X → ℕ → ℕ
summed f xs i = min (2 ^ 64 - 1) (sum_by f (take i xs))

pub none_summed : {X : Type 0} (f : X → ℕ) (xs : List X) → 0 ≡ summed f xs 0
none_summed f xs = let none : sum_by f [] ≡ 0 = refl in omega arith

pub one_summed : {X : Type 0} (f : X → ℕ) (xs : List X) (i so_far sum : ℕ) (d : X) → i < length xs → so_far ≡ summed f xs i →
    sum ≡ min (so_far + f (get_or xs i d)) 18446744073709551615 → sum ≡ summed f xs (i + 1)
one_summed f xs i so_far sum d below before is =
    let more : sum_by f (take (i + 1) xs) ≡ sum_by f (take i xs) + f (get_or xs i d) = sum_by_more f xs i d below in
    omega arith

pub all_summed : {X : Type 0} (f : X → ℕ) (xs : List X) (i : ℕ) → length xs ≤ i → summed f xs i ≡ min (2 ^ 64 - 1) (sum_by f xs)
all_summed f xs i end = ap (λ l. min (2 ^ 64 - 1) (sum_by f l)) (take_all i xs end)

-- a list that has at each place what a function gives there
pub all_mapped : {X Y : Type 0} (f : X → Y) (xs : List X) (ys : List Y) (d : X) (e : Y) → length ys ≡ length xs →
    ((i : ℕ) → i < length xs → get_or ys i e ≡ f (get_or xs i d)) → ys ≡ map f xs
all_mapped f xs ys d e count each =
    ext_get_or e ys (map f xs) (count ∙ sym (length-map xs f))
    (λ i below. let within : i < length xs = omega arith in each i within ∙ sym (get_or-map f xs i d e within))

-- a count that is cut off where no more cards may be gives as many
pub with_spare : (count divisor : ℕ) → min (min count 1000000 + min count 1000000 / divisor + 64) 1000000 ≡ min 1000000 (count + count / divisor + 64)
with_spare count divisor = ⊎_elim
    (λ few. let same : min count 1000000 ≡ count = omega arith in
    ap (λ n. min (n + n / divisor + 64) 1000000) same ∙ (let swap : min (count + count / divisor + 64) 1000000 ≡ min 1000000 (count + count / divisor + 64) = omega arith in swap))
    (λ many. omega arith)
    (cases_lt count 1000000)

-- where the count is cut off far above that
pub cut_off : (count : ℕ) → min (min (2 ^ 64 - 1) count) 1000000 ≡ min count 1000000
cut_off count = omega arith

-- and where so many keys are counted that no card is for tries that are lost
pub lost-cut_off : (changes keys : ℕ) → changes ≤ 1000000 → lost changes (min (2 ^ 64 - 1) keys) ≡ lost changes keys
lost-cut_off changes keys few = ⊎_elim
    (λ low. let same : min (2 ^ 64 - 1) keys ≡ keys = omega arith in ap (lost changes) same)
    (λ high.
    let far : changes < max 8 (keys / 256) = omega arith in
    let near : changes < max 8 (min (2 ^ 64 - 1) keys / 256) = omega arith in
    div-eq_of_lt near ∙ sym (div-eq_of_lt far))
    (cases_lt keys (2 ^ 64 - 1))
