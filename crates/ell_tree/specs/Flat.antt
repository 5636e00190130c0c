use Rattle.std.specs.Prelude.{◌≡◌, ◌≤◌, ℕ, [], true, length}
use Rattle.ell_word.specs.Node.{most_start}
use Rattle.ell_runs.specs.Depths.{deepest}
use Rattle.ell_runs.specs.Plans.{TablePlan}

-- a bound that goes by how deep internal nodes may be: in each flat tree that opened empty it is this number, and in
-- any flat tree at most that
abbrev pub IsFlatBound : (ℕ → ℕ) → ℕ → ℕ → Type 0
IsFlatBound bound empty most = (plan : TablePlan) → plan.flat ≡ true → length plan.start ≤ most_start
    → (plan.start ≡ [] → bound (deepest plan) ≡ empty) × (bound (deepest plan) ≤ most)
