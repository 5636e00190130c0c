use Rattle.std.proofs.Common.{◌≡◌}
use Rattle.ell_test_threads.specs.Sharing.{IsMember}
use Rattle.ell_test_threads.proofs.tests.holding.play.Given as goal

abbrev pub invariant-loop-number : goal.invariant-loop-number
invariant-loop-number g l = record {
  member : IsMember l.owned l.tree l.pass;
  same : (l.tree ≡ l.fn.tree) × (l.owned ≡ l.fn.owned);
}
