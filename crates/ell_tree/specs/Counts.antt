use Rattle.std.specs.Prelude.{◌≡◌, None, ℕ, ◌+◌, ◌-◌, ◌*◌, ◌≤◌}
use Rattle.ell_runs.specs.Plans.{TablePlan}
use Rattle.ell_cards.specs.Models.{PassModel, some_more}
use Rattle.ell_tree.specs.Ends.{try_steps_in}
use Rattle.ell_tree.specs.Milestones.{milestones_known}

-- a pass has at most so many steps more, by both its counts: the steps in a row that led to it, and all steps that were
-- made, those of the passes that it was joined with too
pub record Took (old new : PassModel) (n : ℕ) : Type 0 where
  pub steps : new.steps ≤ old.steps + n
  pub made : new.view.made ≤ old.view.made + n

-- the same in a table: where cards lie in slots, a step in a row may stand for many claims, which are as many steps
-- among all
pub record TookIn (plan : TablePlan) (old new : PassModel) (n : ℕ) : Type 0 where
  pub steps : new.steps ≤ old.steps + n
  pub made : plan.slots ≡ None → new.view.made ≤ old.view.made + n

-- a pass has counted all steps that it made in between
abbrev pub CountsAll : PassModel → PassModel → Type 0
CountsAll old new = new.steps ≡ some_more (new.view.made - old.view.made) old.steps

-- a pass has made so many steps in between, and counted none of them
pub record HasUncounted (old new : PassModel) (n : ℕ) : Type 0 where
  pub steps : new.steps ≡ old.steps
  pub made : new.view.made ≡ old.view.made + n

-- an insert or a delete took the steps of one try, and one step more, and those of another try only for each milestone
-- that the pass came to know of
pub record IsAmortized (plan : TablePlan) (old new : PassModel) : Type 0 where
  pub steps : new.steps + milestones_known plan.last_card old.view * try_steps_in plan ≤ old.steps +
      (milestones_known plan.last_card new.view + 1) * try_steps_in plan + 1
  pub made : plan.slots ≡ None → new.view.made + milestones_known plan.last_card old.view * try_steps_in plan ≤
      old.view.made + (milestones_known plan.last_card new.view + 1) * try_steps_in plan + 1
