use Rattle.std.proofs.Common.{◌⊎◌, ◌≡◌, ◌*◌, ◌-◌, ◌≤◌}
use Rattle.ell_tree.specs.Keeping.{KeepsAllButMet}
use Rattle.ell_tree.specs.Helps.{IsFlag}
use Rattle.ell_tree.specs.Hindrances.{MeetsUpTo}
use Rattle.ell_tree.proofs.helping.help_delete.Given as goal
use Rattle.ell_runs.specs.Depths.{depth_of, deepest}
use Rattle.ell_runs.specs.Dead.{KnowsDeleteEnded}

-- the steps so far are four for each internal node that the chain went down; the first delete has ended once another is at hand
abbrev pub invariant-loop-next : goal.invariant-loop-next
invariant-loop-next g l = record {
  same : l.steps.table.now ≡ l.fn.steps.table.now;
  flag : IsFlag l.steps.table.now.plan.last_card l.pass.view l.flag;
  down : depth_of l.fn.pass.view l.fn.flag.grandparent ≤ depth_of l.pass.view l.flag.grandparent;
  ended : (l.flag ≡ l.fn.flag) ⊎ KnowsDeleteEnded l.pass.view l.fn.flag.card;
  meets : MeetsUpTo l.flag.card l.fn.pass.view l.pass.view;
  keeps_but_met : KeepsAllButMet l.fn.pass l.pass (4 * (depth_of l.pass.view l.flag.grandparent - depth_of l.fn.pass.view l.fn.flag.grandparent));
}

abbrev pub decreases-loop-next : goal.decreases-loop-next
decreases-loop-next g l = deepest l.steps.table.now.plan - depth_of l.pass.view l.flag.grandparent
