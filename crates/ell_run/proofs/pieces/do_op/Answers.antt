use Rattle.ell_run.proofs.lemmas.Paid.{paid_find}
use Rattle.ell_run.proofs.pieces.do_op.Goals as goal

pub returns-in-Find-clause-paid : goal.returns-in-Find-clause-paid
returns-in-Find-clause-paid g c =
    paid_find c.args.tree.now.plan c.args.pass.now c.find.new.pass c.find.ensures.steps c.find.ensures.quiet.milestones
