use Rattle.std.proofs.Common.{◌≤◌, length}
use Rattle.std.specs.Prelude.{vec_capacity}
use Rattle.ell_core.proofs.lemmas.tree.Nodes.{fuel_for}
use Rattle.ell_core.proofs.lemmas.tree.Walk.{Walked, pending}
use Rattle.ell_core.proofs.keys.pairs_of_tree.Given as goal

-- the walk is right, and there is as much room as there was
abbrev pub invariant-loop-node : goal.invariant-loop-node
invariant-loop-node g l = record {
  walked : Walked (g.T.TreeWords.words l.fn.tree) (vec_capacity l.fn.waiting) l.waiting.items l.pairs.items;
  room : vec_capacity l.fn.waiting ≤ vec_capacity l.waiting;
  pairs_room : vec_capacity l.fn.pairs ≤ vec_capacity l.pairs;
}

-- the nodes to come
abbrev pub decreases-loop-node : goal.decreases-loop-node
decreases-loop-node g l =
    let w = g.T.TreeWords.words l.fn.tree in length (pending w (fuel_for w (vec_capacity l.fn.waiting)) l.waiting.items)
