use Rattle.std.proofs.Common.{rules}
use Rattle.ell_tree.proofs.lemmas.Computing.{puts_seen}
use Rattle.ell_tree.proofs.tree.Tree.put.Goals as goal

pub returns-clause-sees : goal.returns-clause-sees
returns-clause-sees g c =
    puts_seen c.args.self.now c.args.key c.args.value c.args.pass.now c.compute.new.pass c.in_ok-done.done.was (search rules)
