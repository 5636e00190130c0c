use Rattle.std.proofs.Common.{map, arith}
use Rattle.ell_run.proofs.lemmas.Apart.{owns_left, worked_apart}
use Rattle.ell_run.proofs.lemmas.Opened.{owns_ops}
use Rattle.ell_run.proofs.workers.work_apart.Goals as goal

pub work-requires-clause-owned : goal.work-requires-clause-owned
work-requires-clause-owned g c = λ κs outlives.
    owns_ops c.args.pass c.args.parts.now.ops c.args.keys.now c.requires.keys c.requires.owned

pub work-requires-2-clause-owned : goal.work-requires-2-clause-owned
work-requires-2-clause-owned g c = λ κs outlives.
    owns_left c.args.parts.now c.args.keys.now c.args.pass c.in-Ok.parted.0 c.in-Ok.parted.1 c.requires.keys c.requires.owned c.in-Ok.ensures.left

pub returns-in-Ok-join-clause-worked : goal.returns-in-Ok-join-clause-worked
returns-in-Ok-join-clause-worked g c =
    let left = c.in-Ok.ensures.left in
    let right = c.in-Ok.ensures.right in
    let did = c.in_ok-ours.ensures.worked in
    let union = c.in-Ok-join.ensures.joined in record {
      worked =
          worked_apart c.args.parts.now c.args.keys.now c.args.pass c.in-Ok.parted.0 c.in-Ok.parted.1 c.requires.keys c.requires.owned left
          c.args.tree.now c.args.tree.now.plan c.args.tries c.in_ok-ours.ours c.in-Ok-join.pass (map (λ piece. piece.items) c.in_ok-ours.pieces.items)
          c.requires.lawful c.requires.idle.0 c.requires.idle.1 right did.worked union;
      bounded = omega (arith, left.steps, right.steps, did.bounded, union.steps);
      total = λ plain. let all = did.total plain in omega (arith, left.made, right.made, all, union.made);
    }
