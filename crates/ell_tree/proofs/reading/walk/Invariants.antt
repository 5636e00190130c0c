use Rattle.std.proofs.Common.{◌+◌, ◌-◌, false}
use Rattle.ell_tree.specs.Counts.{HasUncounted}
use Rattle.ell_tree.proofs.lemmas.Looks.{Comes}
use Rattle.ell_tree.proofs.reading.walk.Given as goal
use Rattle.ell_runs.specs.Depths.{deepest, depth_of}

abbrev pub invariant-loop-steps : goal.invariant-loop-steps
invariant-loop-steps g l = record {
  comes : Comes l.steps.table.now.plan l.fn.pass l.pass l.key (record { node = l.node; low = l.key; high = l.key + 1; whole = false });
  uncounted : HasUncounted l.fn.pass l.pass l.made;
}

abbrev pub decreases-loop-steps : goal.decreases-loop-steps
decreases-loop-steps g l = deepest l.steps.table.now.plan + 2 - depth_of l.pass.view l.node
