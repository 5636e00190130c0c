use Rattle.std.proofs.Common.{◌≡◌, ℕ, ◌≤◌, ◌+◌, [], true, length, if◌then◌else◌, ap, arith}
use Rattle.ell_word.specs.Node.{most_start}
use Rattle.ell_layout.specs.Branches.{greatest_depth}
use Rattle.ell_layout.proofs.lemmas.Depths.{greatest_depth_is_small}
use Rattle.ell_runs.specs.Depths.{deepest}
use Rattle.ell_runs.specs.Plans.{TablePlan}
use Rattle.ell_tree.specs.Flat.{IsFlatBound}

-- how deep a flat tree may be
deepest_flat : (plan : TablePlan) → plan.flat ≡ true → deepest plan ≡ greatest_depth (length plan.start + 1) + 64
deepest_flat plan flat = ap (λ b. if b then greatest_depth (length plan.start + 1) + 64 else plan.last_card) flat

-- one that opened empty
deepest_empty : (plan : TablePlan) → plan.flat ≡ true → plan.start ≡ [] → deepest plan ≡ 64
deepest_empty plan flat none =
    let is = deepest_flat plan flat in
    let small = greatest_depth_is_small 0 (length plan.start + 1) (let empty = ap length none in omega (arith, empty)) in
    omega (arith, is, small)

-- and any, since a million and one leaves are halved 20 times at most
deepest_most : (plan : TablePlan) → plan.flat ≡ true → length plan.start ≤ most_start → deepest plan ≤ 84
deepest_most plan flat few =
    let is = deepest_flat plan flat in
    let small = greatest_depth_is_small 20 (length plan.start + 1) (omega (arith, few)) in
    omega (arith, is, small)

-- so what rises with the depth is at most what it is at these
pub flat_bound : (bound : ℕ → ℕ) → ((d e : ℕ) → d ≤ e → bound d ≤ bound e) → IsFlatBound bound (bound 64) (bound 84)
flat_bound bound rises plan flat few =
    (λ none. ap bound (deepest_empty plan flat none), rises (deepest plan) 84 (deepest_most plan flat few))
