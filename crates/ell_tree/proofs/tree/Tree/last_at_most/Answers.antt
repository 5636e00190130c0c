-- What was found of the last key, and of each after it, was so in one state since the look began.
use Rattle.std.proofs.Common.{◌∙◌, ◌+◌, subst, arith}
use Rattle.ell_tree.proofs.lemmas.Scans.{last_in}
use Rattle.ell_tree.specs.Ledgers.{TreeModel}
use Rattle.ell_tree.specs.LookPlaces.{SeesLast}
use Rattle.ell_tree.proofs.lemmas.LookPlaces.{sees_last_key}
use Rattle.ell_tree.proofs.tree.Tree.last_at_most.Goals as goal

pub returns-clause-so : goal.returns-clause-so
returns-clause-so g c = last_in c.args.self.now c.last_below.new.pass.view (c.args.key + 1) c.last_below.result c.last_below.ensures.found

pub returns-clause-sees : goal.returns-clause-sees
returns-clause-sees g c =
    let a = c.last_below in
    subst (λ (t : TreeModel). SeesLast t (c.args.key + 1) a.result c.args.pass.now a.new.pass) (c.told_to.ensures ∙ c.self.view_is)
    (sees_last_key c.told_to.result.table.now c.args.pass.now a.new.pass a.ensures.saw a.ensures.only.sight (a.ensures.places (omega arith)) (c.args.key + 1) a.result a.ensures.found)
