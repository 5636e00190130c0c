use Rattle.std.proofs.Common.{◌≡◌, ◌+◌, ◌-◌, true}
use Rattle.ell_runs.specs.Depths.{deepest, depth_of}
use Rattle.ell_tree.specs.Counts.{HasUncounted}
use Rattle.ell_tree.proofs.lemmas.Looks.{Comes}
use Rattle.ell_tree.proofs.reading.walk_about.Given as goal

abbrev pub invariant-loop-steps : goal.invariant-loop-steps
invariant-loop-steps g l = record {
  comes : Comes l.steps.table.now.plan l.fn.pass l.pass l.key l.here;
  whole : l.here.whole ≡ true;
  uncounted : HasUncounted l.fn.pass l.pass l.made;
}

abbrev pub decreases-loop-steps : goal.decreases-loop-steps
decreases-loop-steps g l = deepest l.steps.table.now.plan + 2 - depth_of l.pass.view l.here.node
