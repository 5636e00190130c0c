use Rattle.std.proofs.Common.{◌≡◌}
use Rattle.ell_tree.specs.Ledgers.{IsIdle}
use Rattle.shared_map.proofs.add_up.Given as goal

abbrev pub invariant-loop-player : goal.invariant-loop-player
invariant-loop-player l = record {
  own : l.pass.table ≡ l.scores.id;
  idle : IsIdle l.pass;
  same : l.scores ≡ l.fn.scores;
}
