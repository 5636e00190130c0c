use Rattle.std.proofs.Common.{◌≡◌, ℕ, zero, suc, ◌+◌, ◌<◌, ◌≤◌, ◌==◌, if◌then◌else◌, Bool, true, false, Option, Some, None, List, [], ◌∷◌, is_some, inl, inr, refl, sym, ap, ◌∙◌, subst, eq-eqb, arith}
use Rattle.std.proofs.lemmas.Bool.{cases_eq, cases_lt, ne_eqb}
use mathlib.Core.Option.{some, some-injective, some-ne-none}
use lib.ListN.{get_elem?}
use Rattle.ell_runs.specs.declared.view.View.{View}
use Rattle.ell_runs.specs.Changes.{is_this}
use Rattle.ell_runs.specs.Contention.{how_many, cards_in_hand}

-- 1 for true
abbrev pub one : Bool → ℕ
one b = if b then 1 else 0

pub one_less : (b d : Bool) → (b ≡ true → d ≡ true) → one b ≤ one d
one_less false d h = omega arith
one_less true d h = let is = ap one (h refl) in omega arith

-- where it is so of each number of which it was so
pub many_where : (n : ℕ) (was is : ℕ → Bool) → ((c : ℕ) → c < n → was c ≡ true → is c ≡ true) → how_many n was ≤ how_many n is
many_where zero was is h = omega arith
many_where (suc n) was is h =
    let first = one_less (was n) (is n) (h n (omega arith)) in
    let rest = many_where n was is (λ c low. h c (omega arith)) in
    omega arith

-- and of some more
pub many_more : (m n : ℕ) (was is : ℕ → Bool) → m ≤ n → ((c : ℕ) → c < m → was c ≡ true → is c ≡ true) → how_many m was ≤ how_many n is
many_more m zero was is low h = let none : m ≡ 0 = omega arith in subst (λ k. how_many k was ≤ 0) (sym none) (omega arith)
many_more m (suc n) was is low h = elim (cases_lt n m) [
  | inl above ↦ (let same : m ≡ suc n = omega arith in
      subst (λ k. how_many k was ≤ how_many (suc n) is) (sym same) (many_where (suc n) was is (λ c less. h c (omega arith))))
  | inr below ↦ (let rest = many_more m n was is below h in omega arith)
]

-- where there is a new one among them
pub many_most : (m n : ℕ) (was is : ℕ → Bool) → m ≤ n → ((c : ℕ) → c < m → was c ≡ true → is c ≡ true) → (c : ℕ) → c < n → is c ≡ true
    → (c < m → was c ≡ false) → how_many m was + 1 ≤ how_many n is
many_most m zero was is low h c less new old = absurd (omega arith)
many_most m (suc n) was is low h c less new old = elim (cases_lt n m) [
  | inl above ↦
      let same : m ≡ suc n = omega arith in
      subst (λ k. how_many k was + 1 ≤ how_many (suc n) is) (sym same) (elim (cases_lt c n) [
        | inl lower ↦
            let first = one_less (was n) (is n) (h n (omega arith)) in
            let rest = many_most n n was is (omega arith) (λ d less. h d (omega arith)) c lower new (λ less. old (omega arith)) in
            omega arith
        | inr last ↦
            let at : c ≡ n = omega arith in
            let yes = ap one (ap is (sym at) ∙ new) in
            let no = ap one (ap was (sym at) ∙ old (omega arith)) in
            let rest = many_where n was is (λ d less. h d (omega arith)) in
            omega arith
      ])
  | inr below ↦ elim (cases_lt c n) [
    | inl lower ↦ (let rest = many_most m n was is below h c lower new old in omega arith)
    | inr last ↦
        let at : c ≡ n = omega arith in
        let yes = ap one (ap is (sym at) ∙ new) in
        let rest = many_more m n was is below h in
        omega arith
  ]
]

-- the sum of what the numbers below one have
abbrev pub sum_of : ℕ → (ℕ → ℕ) → ℕ
sum_of zero has = 0
sum_of (suc n) has = has n + sum_of n has

pub many_shared : (n : ℕ) (was is : ℕ → Bool) (has : ℕ → ℕ) → ((c : ℕ) → c < n → one (was c) ≤ one (is c) + has c) → how_many n was ≤ how_many n is + sum_of n has
many_shared zero was is has h = omega arith
many_shared (suc n) was is has h =
    let first = h n (omega arith) in
    let rest = many_shared n was is has (λ c low. h c (omega arith)) in
    omega arith

-- how many passes have this card in hand
abbrev pub held_by : ℕ → List View → ℕ
held_by c [] = 0
held_by c (v ∷ vs) = one (is_this v.worker.card c) + held_by c vs

pub held_there : (vs : List View) (i c : ℕ) (v : View) → get_elem? vs i ≡ some v → v.worker.card ≡ Some c → 1 ≤ held_by c vs
held_there [] i c v e has = absurd (some-ne-none v (sym e))
held_there (x ∷ vs) zero c v e has =
    let yes = ap one (ap (λ (u : View). is_this u.worker.card c) (some-injective x v e) ∙ (ap (λ o. is_this o c) has ∙ eq-eqb c c refl)) in omega arith
held_there (x ∷ vs) (suc i) c v e has = let rest = held_there vs i c v e has in omega arith

-- a hand has one card at most
no_such : (n d : ℕ) → n ≤ d → sum_of n (λ c. one (d == c)) ≡ 0
no_such zero d low = refl
no_such (suc n) d low =
    let no = ap one (ne_eqb d n (λ e. omega arith)) in
    let rest = no_such n d (omega arith) in
    omega arith

pub one_such : (n d : ℕ) → sum_of n (λ c. one (d == c)) ≤ 1
one_such zero d = omega arith
one_such (suc n) d = elim (cases_eq d n) [
  | inl e ↦ (let yes = ap one (eq-eqb d n e) in let rest = no_such n d (omega arith) in omega arith)
  | inr other ↦ (let no = ap one (ne_eqb d n other) in let rest = one_such n d in omega arith)
]

no_hand : (n : ℕ) → sum_of n (λ c. 0) ≡ 0
no_hand zero = refl
no_hand (suc n) = let rest = no_hand n in omega arith

one_hand : (n : ℕ) (o : Option ℕ) → sum_of n (λ c. one (is_this o c)) ≤ one (is_some o)
one_hand n None = let none = no_hand n in omega arith
one_hand n (Some d) = one_such n d

pub sum_both : (n : ℕ) (f g : ℕ → ℕ) → sum_of n (λ c. f c + g c) ≡ sum_of n f + sum_of n g
sum_both zero f g = refl
sum_both (suc n) f g = let rest = sum_both n f g in omega arith

pub hands_hold : (n : ℕ) (vs : List View) → sum_of n (λ c. held_by c vs) ≤ cards_in_hand vs
hands_hold n [] = let none = no_hand n in omega arith
hands_hold n (v ∷ vs) =
    let both = sum_both n (λ c. one (is_this v.worker.card c)) (λ c. held_by c vs) in
    let first = one_hand n v.worker.card in
    let rest = hands_hold n vs in
    omega arith
