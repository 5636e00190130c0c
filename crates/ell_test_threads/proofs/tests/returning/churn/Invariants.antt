use Rattle.std.proofs.Common.{◌≡◌}
use Rattle.ell_test_threads.specs.Sharing.{IsSharer}
use Rattle.ell_test_threads.proofs.tests.returning.churn.Given as goal

abbrev pub invariant-loop-number : goal.invariant-loop-number
invariant-loop-number g l = record {
  sharer : IsSharer l.tree l.pass;
  same : l.tree ≡ l.fn.tree;
}
