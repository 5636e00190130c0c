use Rattle.std.proofs.Common.{◌-◌, ◌<◌}
use Rattle.ell_runs.specs.LookPlaces.{FindsHavePlaces}
use Rattle.ell_tree.specs.Cursors.{AreKept}
use Rattle.ell_tree.proofs.lemmas.Scans.{Scans}
use Rattle.ell_tree.proofs.scanning.scan.Given as goal

-- the scan has come to a key, and to the nodes that the cursor keeps
abbrev pub invariant-loop-at : goal.invariant-loop-at
invariant-loop-at g l = record {
  scans : Scans l.steps.table.now.plan l.fn.pass l.pass l.from l.at l.upto l.count l.fn.room l.room;
  kept : AreKept l.steps.table.now.plan.last_card l.pass.view l.cursor;
  places : l.from < l.at → FindsHavePlaces l.steps.table.now.plan l.pass.view l.pass.sight;
}

-- it comes nearer to the end of its range
abbrev pub decreases-loop-at : goal.decreases-loop-at
decreases-loop-at g l = l.upto - l.at
