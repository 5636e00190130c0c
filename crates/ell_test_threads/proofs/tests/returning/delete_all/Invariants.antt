use Rattle.std.proofs.Common.{◌≡◌}
use Rattle.ell_test_threads.specs.Sharing.{IsSharer}
use Rattle.ell_test_threads.proofs.tests.returning.delete_all.Given as goal

abbrev pub invariant-loop-key : goal.invariant-loop-key
invariant-loop-key g l = record {
  sharer : IsSharer l.tree l.pass;
  same : l.tree ≡ l.fn.tree;
}
