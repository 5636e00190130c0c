use Rattle.ell_tree.proofs.lemmas.Beginning.{begins}
use Rattle.ell_tree.proofs.steps.begin.Goals as goal

pub returns-clause-begins : goal.returns-clause-begins
returns-clause-begins g c = begins c.args.steps.table.now.plan.slots c.args.pass.now c.begin.new.pass c.args.op c.begin.ensures.step c.begin.ensures.begins
