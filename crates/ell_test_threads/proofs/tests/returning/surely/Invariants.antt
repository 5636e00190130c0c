use Rattle.std.proofs.Common.{◌≡◌}
use Rattle.ell_test_threads.specs.Sharing.{IsSharer}
use Rattle.ell_test_threads.proofs.tests.returning.surely.Given as goal

abbrev pub invariant-loop-call : goal.invariant-loop-call
invariant-loop-call g l = record {
  sharer : IsSharer l.tree l.pass;
  same : l.tree ≡ l.fn.tree;
}
