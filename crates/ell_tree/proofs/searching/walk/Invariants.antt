use Rattle.std.proofs.Common.{ℕ, ◌≡◌, ◌+◌, ◌*◌, ◌<◌, ◌-◌}
use Rattle.ell_tree.specs.Counts.{HasUncounted}
use Rattle.ell_tree.specs.Keeping.{KeepsAllButSearch}
use Rattle.ell_tree.proofs.searching.walk.Given as goal
use Rattle.ell_runs.specs.Depths.{deepest, depth_of, IsShallow}
use Rattle.ell_tree.proofs.lemmas.Searches.{Stands}

-- the steps so far are three for each internal node down to the parent
abbrev pub invariant-loop-op : goal.invariant-loop-op
invariant-loop-op g l = record {
  same : (l.op ≡ l.fn.op) × (l.steps.table.now ≡ l.fn.steps.table.now);
  stands : Stands l.steps.table.now.plan l.pass.view l.op l.node l.parent l.grandparent;
  depth : ℕ;
  deep : depth < depth_of l.pass.view l.node;
  shallow : IsShallow (deepest l.steps.table.now.plan) l.pass.view l.node;
  keeps_but_search : KeepsAllButSearch l.fn.pass l.pass (3 * depth + 3);
  uncounted : HasUncounted l.fn.pass l.pass l.made;
}

abbrev pub decreases-loop-op : goal.decreases-loop-op
decreases-loop-op g l = deepest l.steps.table.now.plan + 2 - depth_of l.pass.view l.node
