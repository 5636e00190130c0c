-- What the act does that lends a stretch, and the one that returns it, for the rule of a client.
use Rattle.std.proofs.Common.{◌≡◌, ℕ, zero, suc, ◌+◌, ◌<◌, ◌≤◌, List, [], ◌∷◌, ◌++◌, length, set, sym, refl, ap, ◌∙◌, subst, arith, length-set}
use mathlib.Core.Option.{Option, none, some}
use lib.ListN.{get_elem?}
use Rattle.atomic_table.specs.Table.{carried_after, homes_after, Valid}
use Rattle.atomic_table.proofs.Lists.{set_here, set_else}
use Rattle.ell_arena.specs.Stretches.{stretch, AreHome, lends, returns, without, with_these}

-- ---- a stretch that is lent
pub carried_after_lends : (lent : List (ℕ × ℕ)) (a : ℕ) (ys : List ℕ) → carried_after lent (lends a ys) ≡ stretch a ys ++ lent
carried_after_lends lent a [] = refl
carried_after_lends lent a (y ∷ ys) = ap (λ (xs : List (ℕ × ℕ)). (a, y) ∷ xs) (carried_after_lends lent (suc a) ys)

pub homes_after_lends : (homes : List (Option ℕ)) (lent : List (ℕ × ℕ)) (a : ℕ) (ys : List ℕ) → homes_after homes lent (lends a ys) ≡ without homes a (length ys)
homes_after_lends homes lent a [] = refl
homes_after_lends homes lent a (y ∷ ys) = ap (λ (hs : List (Option ℕ)). set hs a none) (homes_after_lends homes lent (suc a) ys)

-- what is not of the stretch stays
pub at_without_below : (homes : List (Option ℕ)) (a n b : ℕ) → b < a → get_elem? (without homes a n) b ≡ get_elem? homes b
at_without_below homes a zero b low = refl
at_without_below homes a (suc n) b low = set_else (without homes (suc a) n) a b none (λ e. omega arith) ∙ at_without_below homes (suc a) n b (omega arith)

pub at_without_above : (homes : List (Option ℕ)) (a n b : ℕ) → a + n ≤ b → get_elem? (without homes a n) b ≡ get_elem? homes b
at_without_above homes a zero b high = refl
at_without_above homes a (suc n) b high = set_else (without homes (suc a) n) a b none (λ e. omega arith) ∙ at_without_above homes (suc a) n b (omega arith)

pub length_without : (homes : List (Option ℕ)) (a n : ℕ) → length (without homes a n) ≡ length homes
length_without homes a zero = refl
length_without homes a (suc n) = length-set (without homes (suc a) n) a none ∙ length_without homes (suc a) n

-- what is of the stretch is away
pub at_without : (homes : List (Option ℕ)) (a n b : ℕ) → a ≤ b → b < a + n → b < length homes → get_elem? (without homes a n) b ≡ some none
at_without homes a zero b low high near = absurd (omega arith)
at_without homes a (suc n) b low high near = mathlib.Core.Logic.dite (native.Mathlib.Decide.ℕ_discrete b a)
    (λ e. subst (λ (i : ℕ). get_elem? (set (without homes (suc a) n) a none) i ≡ some none) (sym e) (set_here (without homes (suc a) n) a none (let l : length (without homes (suc a) n) ≡ length homes = length_without homes (suc a) n in omega arith)))
    (λ apart. set_else (without homes (suc a) n) a b none apart ∙ at_without homes (suc a) n b (omega arith) (omega arith) near)

-- a stretch that is at home may be lent
pub valid_lends : (homes : List (Option ℕ)) (lent : List (ℕ × ℕ)) (a : ℕ) (ys : List ℕ) → AreHome homes a ys → Valid homes lent (lends a ys)
valid_lends homes lent a [] home = tt
valid_lends homes lent a (y ∷ ys) home = (
  valid_lends homes lent (suc a) ys home.1,
  (ap (λ (hs : List (Option ℕ)). get_elem? hs a) (homes_after_lends homes lent (suc a) ys) ∙ at_without_below homes (suc a) (length ys) a (omega arith)) ∙ home.0,
)

-- ---- a stretch that is returned
pub carried_after_returns : (lent : List (ℕ × ℕ)) (a : ℕ) (ys : List ℕ) → carried_after (stretch a ys ++ lent) (returns (length ys)) ≡ lent
carried_after_returns lent a [] = refl
carried_after_returns lent a (y ∷ ys) = carried_after_returns lent (suc a) ys

pub homes_after_returns : (homes : List (Option ℕ)) (lent : List (ℕ × ℕ)) (a : ℕ) (ys : List ℕ) → homes_after homes (stretch a ys ++ lent) (returns (length ys)) ≡ with_these homes a ys
homes_after_returns homes lent a [] = refl
homes_after_returns homes lent a (y ∷ ys) = homes_after_returns (set homes a (some y)) lent (suc a) ys

pub valid_returns : (homes : List (Option ℕ)) (lent : List (ℕ × ℕ)) (n : ℕ) → Valid homes lent (returns n)
valid_returns homes lent zero = tt
valid_returns homes [] (suc n) = (tt, valid_returns homes [] n)
valid_returns homes (x ∷ xs) (suc n) = (tt, valid_returns (set homes x.0 (some x.1)) xs n)

-- what is not of the stretch stays
pub at_with_below : (homes : List (Option ℕ)) (a : ℕ) (ys : List ℕ) (b : ℕ) → b < a → get_elem? (with_these homes a ys) b ≡ get_elem? homes b
at_with_below homes a [] b low = refl
at_with_below homes a (y ∷ ys) b low = at_with_below (set homes a (some y)) (suc a) ys b (omega arith) ∙ set_else homes a b (some y) (λ e. omega arith)

pub at_with_above : (homes : List (Option ℕ)) (a : ℕ) (ys : List ℕ) (b : ℕ) → a + length ys ≤ b → get_elem? (with_these homes a ys) b ≡ get_elem? homes b
at_with_above homes a [] b high = refl
at_with_above homes a (y ∷ ys) b high = at_with_above (set homes a (some y)) (suc a) ys b (omega arith) ∙ set_else homes a b (some y) (λ e. omega arith)

pub length_with_these : (homes : List (Option ℕ)) (a : ℕ) (ys : List ℕ) → length (with_these homes a ys) ≡ length homes
length_with_these homes a [] = refl
length_with_these homes a (y ∷ ys) = length_with_these (set homes a (some y)) (suc a) ys ∙ length-set homes a (some y)

-- what is of the stretch is at home, with what was written to it last
pub home_with_these : (homes : List (Option ℕ)) (a : ℕ) (ys : List ℕ) → a + length ys ≤ length homes → AreHome (with_these homes a ys) a ys
home_with_these homes a [] near = tt
home_with_these homes a (y ∷ ys) near = (
  at_with_below (set homes a (some y)) (suc a) ys a (omega arith) ∙ set_here homes a (some y) (omega arith),
  home_with_these (set homes a (some y)) (suc a) ys (let l : length (set homes a (some y)) ≡ length homes = length-set homes a (some y) in omega arith),
)
