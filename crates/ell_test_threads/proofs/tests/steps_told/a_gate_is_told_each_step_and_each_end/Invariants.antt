use Rattle.std.proofs.Common.{◌≡◌}
use Rattle.ell_tree.specs.Ledgers.{IsIdle}
use Rattle.ell_test_threads.proofs.tests.steps_told.a_gate_is_told_each_step_and_each_end.Given as goal

abbrev pub invariant-loop-number : goal.invariant-loop-number
invariant-loop-number g l = record {
  own : l.pass.table ≡ l.tree.id;
  idle : IsIdle l.pass;
  same : l.tree ≡ l.initial.tree;
}
