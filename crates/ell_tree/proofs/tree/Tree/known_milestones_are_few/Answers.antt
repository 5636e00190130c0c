use Rattle.std.proofs.Common.{ap, arith}
use Rattle.ell_tree.specs.Ledgers.{TreeModel}
use Rattle.ell_tree.proofs.lemmas.Milestones.{milestones_most}
use Rattle.ell_tree.proofs.tree.Tree.known_milestones_are_few.Goals as goal

pub returns : goal.returns
returns g c =
    let same = ap (λ (t : TreeModel). t.plan.last_card) c.self.view_is in
    milestones_most c.args.self.now.plan.last_card c.args.pass.now.view (omega (arith, c.claims_stay_inside.ensures, same))
