use Rattle.std.proofs.Common.{◌<◌}
use Rattle.ell_runs.specs.LookPlaces.{FindsHavePlaces}
use Rattle.ell_tree.specs.Cursors.{AreKept}
use Rattle.ell_tree.proofs.lemmas.Scans.{Descends}
use Rattle.ell_tree.proofs.scanning.last_below.Given as goal

-- all keys that it has come by were absent, and it goes on from the nodes that the cursor keeps
abbrev pub invariant-loop-below : goal.invariant-loop-below
invariant-loop-below g l = record {
  descends : Descends l.steps.table.now.plan l.fn.pass l.pass l.below l.upto;
  kept : AreKept l.steps.table.now.plan.last_card l.pass.view l.cursor;
  places : l.below < l.upto → FindsHavePlaces l.steps.table.now.plan l.pass.view l.pass.sight;
}

-- it comes nearer to the first key
abbrev pub decreases-loop-below : goal.decreases-loop-below
decreases-loop-below g l = l.below
