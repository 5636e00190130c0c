use Rattle.std.proofs.Common.{◌≡◌, ℕ, ◌+◌, ◌*◌, ◌<◌, ◌≤◌, List, [], ◌∷◌, ◌++◌, ◌/◌, ◌∙◌, length, get_or, take, drop, max, ap, arith}
use Rattle.std.proofs.Math.Nat.{mul-le-mul_right}
use Rattle.std.proofs.lemmas.List.{length-append, length-drop, length-take}
use Rattle.std.proofs.lemmas.List.Sums.{sum_by-append}
use Rattle.ell_ops.specs.declared.op.Op.{Op}
use Rattle.ell_parts.specs.PartedOps.{PartedOps, part}
use Rattle.ell_tree.specs.Counts.{Took, TookIn}
use Rattle.ell_runs.specs.Plans.{TablePlan}
use Rattle.ell_runs.specs.Depths.{deepest}
use Rattle.ell_tree.specs.Ends.{find_steps, try_steps_in}
use Rattle.ell_tree.specs.Ledgers.{PassModel}
use Rattle.ell_tree.specs.Milestones.{milestones_known}
use Rattle.ell_tree.specs.PassParts.{IsUnion}
use Rattle.ell_run.specs.Steps.{AreWithin, IsPaid, longest, worker_steps}
use Rattle.ell_run.specs.Work.{AreHalves}

-- a find
pub paid_find : (plan : TablePlan) (before after : PassModel) → Took before after (find_steps (deepest plan)) →
    milestones_known plan.last_card before.view ≤ milestones_known plan.last_card after.view → IsPaid plan 1 before after
paid_find plan before after few more =
    let all = mul-le-mul_right {m = milestones_known plan.last_card before.view} {n = milestones_known plan.last_card after.view} (try_steps_in plan) more in
    record { steps = omega (arith, few.steps, all); made = λ plain. omega (arith, few.made, all) }

-- one call more
pub paid_more : (plan : TablePlan) (calls : ℕ) (before mid after : PassModel) → IsPaid plan calls before mid → IsPaid plan 1 mid after →
    IsPaid plan (calls + 1) before after
paid_more plan calls before mid after h one =
    record { steps = omega (arith, h.steps, one.steps); made = λ plain. let first = h.made plain in let then = one.made plain in omega (arith, first, then) }

-- of more calls
pub paid_within : (plan : TablePlan) (calls count : ℕ) (before after : PassModel) → calls ≤ count → IsPaid plan calls before after → IsPaid plan count before after
paid_within plan calls count before after few h =
    let all = mul-le-mul_right {m = milestones_known plan.last_card after.view + calls} {n = milestones_known plan.last_card after.view + count} (try_steps_in plan) (omega (arith, few)) in
    record { steps = omega (arith, h.steps, all, few); made = λ plain. let made = h.made plain in omega (arith, made, all, few) }

-- the steps of a worker, whose pass knows of two moves of each card at most
pub paid_steps : (plan : TablePlan) (calls : ℕ) (before after : PassModel) → IsPaid plan calls before after → milestones_known plan.last_card after.view ≤ 2 * plan.last_card →
    TookIn plan before after (worker_steps plan calls)
paid_steps plan calls before after h few =
    let all = mul-le-mul_right {m = milestones_known plan.last_card after.view} {n = 2 * plan.last_card} (try_steps_in plan) few in
    record { steps = omega (arith, h.steps, all); made = λ plain. let made = h.made plain in omega (arith, made, all) }

-- the longest part of two rows
pub longest_both : (parting : PartedOps) (low high : List ℕ) → longest parting (low ++ high) ≡ max (longest parting low) (longest parting high)
longest_both parting [] high = omega arith
longest_both parting (worker ∷ low) high = let rest = longest_both parting low high in omega (arith, rest)

-- fewer operations take no more steps
pub worker_steps_within : (plan : TablePlan) (few many : ℕ) → few ≤ many → worker_steps plan few ≤ worker_steps plan many
worker_steps_within plan few many h =
    let all = mul-le-mul_right {m = few} {n = many} (try_steps_in plan + 1) h in
    omega (arith, all)

-- two rows of workers, of which each has one
pub within_both : (plan : TablePlan) (parting : PartedOps) (low high : List ℕ) (pass left right first second both : PassModel) → 0 < length low → 0 < length high →
    AreHalves parting low pass left right → AreWithin plan parting low left first → AreWithin plan parting high right second → IsUnion first second both →
    AreWithin plan parting (low ++ high) pass both
within_both plan parting low high pass left right first second both some_low some_high halves did other union =
    let most = longest_both parting low high in
    let front = worker_steps_within plan (longest parting low) (longest parting (low ++ high)) (omega (arith, most)) in
    let back = worker_steps_within plan (longest parting high) (longest parting (low ++ high)) (omega (arith, most)) in
    let count = length-append low high in
    let sum = sum_by-append (λ worker. worker_steps plan (length (part parting worker))) low high in
    record {
      bounded = omega (arith, front, back, count, did.bounded, other.bounded, union.steps, halves.on_left.steps, halves.on_right.steps, some_low, some_high);
      total = λ plain. let first = did.total plain in let then = other.total plain in
          omega (arith, sum, count, first, then, union.made, halves.on_left.made, halves.on_right.made, some_low, some_high);
    }

-- one worker, by a pass that got another label
pub within_one : (plan : TablePlan) (parting : PartedOps) (workers : List ℕ) (d : ℕ) (before told after : PassModel) (items : List (ℕ × Op)) →
    0 < length workers → length workers < 2 → (label : ℕ) → told ≡ record before { label = label } → items ≡ part parting (get_or workers 0 d) →
    TookIn plan told after (worker_steps plan (length items)) → AreWithin plan parting workers before after
within_one plan parting [] d before told after items some few label same own h = absurd (omega arith)
within_one plan parting (w ∷ v ∷ ws) d before told after items some few label same own h = absurd (omega arith)
within_one plan parting (w ∷ []) d before told after items some few label same own h =
    let kept = ap (λ (p : PassModel). p.steps) same in
    let still = ap (λ (p : PassModel). p.view.made) same in
    let count = ap length own in
    let within = worker_steps_within plan (length items) (longest parting (w ∷ [])) (omega (arith, count)) in
    let alone = ap (worker_steps plan) count in
    record { bounded = omega (arith, kept, within, h.steps); total = λ plain. let made = h.made plain in omega (arith, still, alone, made) }

-- a row of two workers or more, parted in the middle
pub some_each : (workers low high : List ℕ) → 2 ≤ length workers → low ≡ take (length workers / 2) workers → high ≡ drop (length workers / 2) workers →
    (0 < length low) × (0 < length high)
some_each workers low high many front back =
    let n = ap length front ∙ length-take (length workers / 2) workers in
    let m = ap length back ∙ length-drop (length workers / 2) workers in
    (omega (arith, many, n), omega (arith, many, m))
