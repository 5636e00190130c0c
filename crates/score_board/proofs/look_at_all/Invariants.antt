use Rattle.std.proofs.Common.{◌≡◌}
use Rattle.ell_tree.specs.Ledgers.{IsIdle}
use Rattle.score_board.proofs.look_at_all.Given as goal

abbrev pub invariant-loop-place : goal.invariant-loop-place
invariant-loop-place l = record {
  own : l.pass.table ≡ l.board.id;
  idle : IsIdle l.pass;
  same : l.board ≡ l.fn.board;
}
