use Rattle.ell_tree.proofs.lemmas.Beginning.{begins_anew}
use Rattle.ell_tree.proofs.steps.again.Goals as goal

pub returns-clause-begins : goal.returns-clause-begins
returns-clause-begins g c = λ op busy. begins_anew c.args.pass.now c.again.new.pass op c.again.ensures.step busy
