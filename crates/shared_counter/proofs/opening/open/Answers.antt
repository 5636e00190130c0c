use Rattle.std.proofs.Common.{◌^◌, ◌<◌, arith}
use Rattle.shared_counter.proofs.lemmas.Openings.{are_new, is_counter}
use Rattle.shared_counter.proofs.opening.open.Goals as goal

-- the tree has the counter, and its four parts are new
pub returns : goal.returns
returns c =
    let t = c.in_ok-tree.tree in
    let few : c.args.start < 2 ^ 64 = omega arith in
    let counter = is_counter c.args.start t c.in_ok-tree.ensures.starts few in
    record {
      counter = counter.0;
      start = counter.1;
      new = are_new c.args.start t c.in_ok-tree.pass c.in_ok-left.left c.in_ok-left.right c.in_ok-left-2.left.0 c.in_ok-left-2.left.1 c.in_ok-right.right.0
          c.in_ok-right.right.1 c.in_ok-tree.ensures.starts c.in_ok-tree.ensures.first c.in_ok-left.ensures.left c.in_ok-left.ensures.right
          c.in_ok-left-2.ensures.left c.in_ok-left-2.ensures.right c.in_ok-right.ensures.left c.in_ok-right.ensures.right;
    }
