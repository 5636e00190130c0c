use Rattle.std.proofs.Common.{◌+◌, arith}
use Rattle.ell_ops.specs.declared.op.Op.TheVariants.{Find}
use Rattle.ell_run.proofs.lemmas.Fronts.{front_all, front_not_done, front_more}
use Rattle.ell_run.proofs.lemmas.Paid.{paid_more, paid_steps, paid_within}
use Rattle.ell_run.proofs.pieces.work_off.Goals as goal

pub loop-position-preserved : goal.loop-position-preserved
loop-position-preserved g c = (
  rw c.in_ok-push.ensures.items
      (front_more c.args.tree.now c.args.part.now c.loop-position.position-index (0, Find 0) c.args.pass.now c.loop-position.pass c.do_op.new.pass c.loop-position.piece.items c.in-Ok.reply
      c.loop-position-test.true c.requires.owned c.loop-position.invariant.0 c.in-Ok.ensures.ends.0 c.in-Ok.ensures.ends.1),
  paid_more c.args.tree.now.plan c.loop-position.position-index c.args.pass.now c.loop-position.pass c.do_op.new.pass c.loop-position.invariant.1 c.do_op.ensures.paid,
)

pub returns-clause-worked : goal.returns-clause-worked
returns-clause-worked g c =
    front_all c.args.tree.now.plan c.args.tries c.args.part.now c.loop-position.position-index c.args.pass.now c.loop-position.pass c.loop-position.piece.items
    c.loop-position-test.false c.loop-position.invariant.0

pub returns-clause-bounded : goal.returns-clause-bounded
returns-clause-bounded g c =
    let few = c.loop-position.invariant.0.few in
    paid_steps c.args.tree.now.plan _ c.args.pass.now c.loop-position.pass
    (paid_within c.args.tree.now.plan c.loop-position.position-index _ c.args.pass.now c.loop-position.pass few c.loop-position.invariant.1)
    c.known_milestones_are_few-2.ensures

pub returns-in_default-clause-worked : goal.returns-in_default-clause-worked
returns-in_default-clause-worked g c =
    front_not_done c.args.tree.now c.args.tries c.args.part.now c.loop-position.position-index (0, Find 0) c.args.pass.now c.loop-position.pass c.do_op.new.pass c.loop-position.piece.items
    c.in_default.field-0 c.loop-position-test.true c.requires.owned c.loop-position.invariant.0 c.in_default.ensures.ends.0 c.in_default.ensures.ends.1

pub returns-in_default-clause-bounded : goal.returns-in_default-clause-bounded
returns-in_default-clause-bounded g c =
    let plan = c.args.tree.now.plan in
    let within = c.loop-position-test.true in
    paid_steps plan _ c.args.pass.now c.do_op.new.pass
    (paid_within plan (c.loop-position.position-index + 1) _ c.args.pass.now c.do_op.new.pass (omega (arith, within))
    (paid_more plan c.loop-position.position-index c.args.pass.now c.loop-position.pass c.do_op.new.pass c.loop-position.invariant.1 c.do_op.ensures.paid))
    c.known_milestones_are_few.ensures
