-- A toy rule: the word 0 says whether the word 1 is fresh (0), out with a seat (1) or shared (2).
use Rattle.std.proofs.Common.{◌≡◌, ℕ, zero, suc, List, [], ◌∷◌, set, sym, refl, ap, ◌∙◌, arith, subst, ne_eqb}
use mathlib.Core.Option.{Option, none, some, some-injective, some-ne-none}
use lib.ListN.{get_elem?}
use prog.Atomic.{either}
use lib.Dec.{eqb}
use Rattle.atomic_table.specs.Table.{Act, keeps, takes, gives}
use Rattle.ell_arena.specs.Words.{State, Me, written, IsShared, Allows}

abbrev pub Word1 : ℕ → List (Option ℕ) → Type 0
Word1 zero hs = get_elem? hs 1 ≡ some (some 0)
Word1 (suc zero) hs = get_elem? hs 1 ≡ some none
Word1 (suc (suc n)) hs = (m : ℕ) × IsShared hs 1 m

abbrev pub Held : List (Option ℕ) → Type 0
Held hs = (n : ℕ) × IsShared hs 0 n × Word1 n hs

abbrev pub Toy : State (Unit {0}) → Type 0
Toy s = Held s.homes

-- an exchange that finds another number
lost : (n x y : ℕ) → ¬ (n ≡ x) → n ≡ either (eqb n x) y n
lost n x y apart = ap (λ b. either b y n) (sym (ne_eqb n x apart))

-- the home of the word 1 stays when the word 0 changes
other : (hs : List (Option ℕ)) (x : Option ℕ) → get_elem? (set hs 0 x) 1 ≡ get_elem? hs 1
other [] x = refl
other (h ∷ hs) x = refl

first : (hs : List (Option ℕ)) (n : ℕ) (x : Option ℕ) → get_elem? hs 0 ≡ some (written n) → get_elem? (set hs 0 x) 0 ≡ some x
first [] n x at = absurd (mathlib.Core.Option.some-ne-none (written n) (sym at))
first (h ∷ hs) n x at = refl

gone : (hs : List (Option ℕ)) (y : Option ℕ) → get_elem? hs 1 ≡ some y → get_elem? (set hs 1 none) 1 ≡ some none
gone [] y at = absurd (mathlib.Core.Option.some-ne-none y (sym at))
gone (h ∷ []) y at = absurd (mathlib.Core.Option.some-ne-none y (sym at))
gone (h ∷ g ∷ hs) y at = refl

stays : (hs : List (Option ℕ)) (x y : Option ℕ) → get_elem? hs 0 ≡ some x → get_elem? (set hs 1 y) 0 ≡ some x
stays [] x y at = at
stays (h ∷ hs) x y at = at

-- `begin`: who exchanges 0 for 1 has the word 1, which nobody has written; who finds another number has nothing
pub begin : (id : ℕ) → Allows Toy id (tt, []) 0 (λ n. either (eqb n 0) 1 n) (λ n m. (n ≡ 0 → m.1 ≡ (1, 0) ∷ []) × (¬ (n ≡ 0) → m.1 ≡ []))
begin id s (zero, at, w) v = (
  0,
  at,
  λ small. (
    tt,
    takes 1 0,
    other s.homes (written 1) ∙ w,
    (1, stays (set s.homes 0 (written 1)) (written 1) none (first s.homes 0 (written 1) at), gone (set s.homes 0 (written 1)) (some 0) (other s.homes (written 1) ∙ w)),
    ((λ _. refl), λ apart. absurd (apart refl)),
  ),
)
begin id s (suc zero, at, w) v = (1, at, λ small. (tt, keeps, tt, (1, first s.homes 1 (written 1) at, other s.homes (written 1) ∙ w), ((λ e. absurd (omega arith)), λ _. refl)))
begin id s (suc (suc n), at, w) v = (suc (suc n), at, λ small. (tt, keeps, tt, subst (λ (u : ℕ). Held (set s.homes 0 (written u))) (lost (suc (suc n)) 0 1 (λ e. omega arith)) (suc (suc n), first s.homes (suc (suc n)) (written (suc (suc n))) at, (w.0, other s.homes (written (suc (suc n))) ∙ w.1)), ((λ e. absurd (omega arith)), λ _. refl)))

-- `share`: who has written the word 1 as x, and exchanges 1 for 2, gives it, and all can load it. He keeps it where he finds another number
pub share : (id x : ℕ) → Allows Toy id (tt, (1, suc x) ∷ []) 0 (λ n. either (eqb n 1) 2 n) (λ n m. (n ≡ 1 → m.1 ≡ []) × (¬ (n ≡ 1) → m.1 ≡ (1, suc x) ∷ []))
share id x s (zero, at, w) v = (0, at, λ small. (tt, keeps, tt, (0, first s.homes 0 (written 0) at, other s.homes (written 0) ∙ w), ((λ e. absurd (omega arith)), λ _. refl)))
share id x s (suc zero, at, w) v = (1, at, λ small. (tt, gives, tt, (2, stays (set s.homes 0 (written 2)) (written 2) (written x) (first s.homes 1 (written 2) at), (x, back (set s.homes 0 (written 2)) none (written x) (other s.homes (written 2) ∙ w))), ((λ _. refl), λ apart. absurd (apart refl))))
  where
    back : (hs : List (Option ℕ)) (y z : Option ℕ) → get_elem? hs 1 ≡ some y → get_elem? (set hs 1 z) 1 ≡ some z
    back [] y z e = absurd (some-ne-none y (sym e))
    back (h ∷ []) y z e = absurd (some-ne-none y (sym e))
    back (h ∷ g ∷ hs) y z e = refl
share id x s (suc (suc n), at, w) v = (suc (suc n), at, λ small. (tt, keeps, tt, subst (λ (u : ℕ). Held (set s.homes 0 (written u))) (lost (suc (suc n)) 1 2 (λ e. omega arith)) (suc (suc n), first s.homes (suc (suc n)) (written (suc (suc n))) at, (w.0, other s.homes (written (suc (suc n))) ∙ w.1)), ((λ e. absurd (omega arith)), λ _. refl)))

-- wrong: the word 1 is out. No rule that can hold then allows a load of it, whatever is told
abbrev away : State (Unit {0})
away = record { words = []; homes = written 1 ∷ none ∷ []; views = tt ∷ [] }

pub no_load : (then : ℕ → Me (Unit {0}) → Type 0) (m : List (ℕ × ℕ)) → ¬ (Allows Toy 0 (tt, m) 1 (λ n. n) then)
no_load then m law = let r = law away (1, refl, refl) refl in some-ne-none (suc r.0) (some-injective (written r.0) none (lift r.1))
  where
    lift : {n : ℕ} → get_elem? (written 1 ∷ none ∷ []) 1 ≡ some (written n) → some (written n) ≡ some none
    lift e = sym e

-- wrong: nor is it lent a second time
pub not_twice : (hs : List (Option ℕ)) (y : ℕ) → Word1 1 hs → ¬ (Rattle.atomic_table.specs.Table.Valid hs [] (takes 1 y))
not_twice hs y w ok = some-ne-none y (some-injective (some y) none (sym ok ∙ w))

-- `take back`: who exchanges 2 for 1 has the word 1 again, with its last value
pub take_back : (id : ℕ) → Allows Toy id (tt, []) 0 (λ n. either (eqb n 2) 1 n) (λ n m. n ≡ 2 → (x : ℕ) × (m.1 ≡ (1, suc x) ∷ []))
take_back id s (zero, at, w) v = (0, at, λ small. (tt, keeps, tt, (0, first s.homes 0 (written 0) at, other s.homes (written 0) ∙ w), λ e. absurd (omega arith)))
take_back id s (suc zero, at, w) v = (1, at, λ small. (tt, keeps, tt, (1, first s.homes 1 (written 1) at, other s.homes (written 1) ∙ w), λ e. absurd (omega arith)))
take_back id s (suc (suc zero), at, w) v = (
  2,
  at,
  λ small. (
    tt,
    takes 1 (suc w.0),
    other s.homes (written 1) ∙ w.1,
    (1, stays (set s.homes 0 (written 1)) (written 1) none (first s.homes 2 (written 1) at), gone (set s.homes 0 (written 1)) (written w.0) (other s.homes (written 1) ∙ w.1)),
    λ _. (w.0, refl),
  ),
)
take_back id s (suc (suc (suc n)), at, w) v = let k : ℕ = suc (suc (suc n)) in (k, at, λ small. (tt, keeps, tt, subst (λ (u : ℕ). Held (set s.homes 0 (written u))) (lost k 2 1 (λ e. omega arith)) (k, first s.homes k (written k) at, (w.0, other s.homes (written k) ∙ w.1)), λ e. absurd (omega arith)))

-- wrong: while the word 1 is out or fresh, nobody has a written word of it
pub not_back : (hs : List (Option ℕ)) (x : ℕ) → Word1 0 hs → ¬ (Rattle.atomic_table.specs.Table.Valid hs [] (takes 1 (suc x)))
not_back hs x w ok = let e : 0 ≡ suc x = some-injective 0 (suc x) (some-injective (some 0) (written x) (sym w ∙ ok)) in omega arith
