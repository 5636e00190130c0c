use Rattle.ell_tree.proofs.lemmas.Beginning.{gives_up}
use Rattle.ell_tree.proofs.steps.leave.Goals as goal

pub returns : goal.returns
returns g c = record {
  gives_up = λ op busy. gives_up c.args.pass.now c.leave.new.pass op c.leave.ensures.step busy;
  least = c.leave.ensures.least;
}
