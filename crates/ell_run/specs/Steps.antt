use Rattle.std.specs.Prelude.{◌≡◌, None, ℕ, ◌+◌, ◌-◌, ◌*◌, ◌≤◌, List, [], ◌∷◌, length, max}
use Rattle.std.specs.List.{sum_by}
use Rattle.ell_parts.specs.PartedOps.{PartedOps, part}
use Rattle.ell_runs.specs.Plans.{TablePlan}
use Rattle.ell_tree.specs.Ends.{try_steps_in}
use Rattle.ell_tree.specs.Ledgers.{PassModel}
use Rattle.ell_tree.specs.Milestones.{milestones_known}

-- so many finds, inserts and deletes of a pass took the steps of one try each, and one step more, and those of another
-- try only for each move that the pass came to know of; so by both counts, that of the steps in a row and that of all
-- steps, if each card has words of its own
pub record IsPaid (plan : TablePlan) (calls : ℕ) (before after : PassModel) : Type 0 where
  pub steps : after.steps + milestones_known plan.last_card before.view * try_steps_in plan ≤
      before.steps + (milestones_known plan.last_card after.view + calls) * try_steps_in plan + calls
  pub made : plan.slots ≡ None → after.view.made + milestones_known plan.last_card before.view * try_steps_in plan ≤
      before.view.made + (milestones_known plan.last_card after.view + calls) * try_steps_in plan + calls

-- the most steps of a worker with so many operations: a try of each, and a try more for each move of a card
abbrev pub worker_steps : TablePlan → ℕ → ℕ
worker_steps plan count = count * (try_steps_in plan + 1) + 2 * plan.last_card * try_steps_in plan

-- the most operations that one of these workers has
abbrev pub longest : PartedOps → List ℕ → ℕ
longest parting [] = 0
longest parting (worker ∷ workers) = max (length (part parting worker)) (longest parting workers)

-- the most that the pass counts which comes back from these workers: the steps of the one with the most operations, and
-- a split and a join for each worker beside the first
abbrev pub work_steps : TablePlan → PartedOps → List ℕ → ℕ
work_steps plan parting workers = worker_steps plan (longest parting workers) + 2 * (length workers - 1)

-- the most steps that these workers make together: of each, those of its operations, and a split and a join for each
-- beside the first
abbrev pub total_steps : TablePlan → PartedOps → List ℕ → ℕ
total_steps plan parting workers =
    sum_by (λ worker. worker_steps plan (length (part parting worker))) workers + 2 * (length workers - 1)

-- workers that began with a pass made no more steps than they may, in a row and all together, as the pass counts that
-- comes back from them
pub record AreWithin (plan : TablePlan) (parting : PartedOps) (workers : List ℕ) (before after : PassModel) : Type 0 where
  pub bounded : after.steps ≤ before.steps + work_steps plan parting workers
  pub total : plan.slots ≡ None → after.view.made ≤ before.view.made + total_steps plan parting workers
