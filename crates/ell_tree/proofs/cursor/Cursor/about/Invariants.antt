use Rattle.std.proofs.Common.{◌+◌, ◌-◌}
use Rattle.ell_tree.specs.Counts.{HasUncounted}
use Rattle.ell_tree.proofs.lemmas.Cursors.{GoesDown}
use Rattle.ell_tree.proofs.cursor.Cursor.about.Given as goal
use Rattle.ell_runs.specs.Depths.{deepest, depth_of}

abbrev pub invariant-loop-steps : goal.invariant-loop-steps
invariant-loop-steps g l = record {
  keeps : GoesDown l.steps.table.now.plan.last_card l.fn.pass l.pass l.key l.here l.self;
  uncounted : HasUncounted l.fn.pass l.pass l.made;
}

abbrev pub decreases-loop-steps : goal.decreases-loop-steps
decreases-loop-steps g l = deepest l.steps.table.now.plan + 2 - depth_of l.pass.view l.here.node
