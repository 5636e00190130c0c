use Rattle.std.proofs.Common.{◌≡◌}
use Rattle.ell_tree.specs.Ledgers.{IsIdle}
use Rattle.score_board.proofs.play.Given as goal

abbrev pub invariant-loop-player : goal.invariant-loop-player
invariant-loop-player l = record {
  own : l.pass.table ≡ l.board.id;
  idle : IsIdle l.pass;
  same : l.board ≡ l.fn.board;
}
