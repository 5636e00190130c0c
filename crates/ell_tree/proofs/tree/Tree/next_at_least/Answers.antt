-- What was found of the next key, and of each before it, was so in one state since the look began.
use Rattle.ell_tree.proofs.lemmas.Scans.{next_in}
use Rattle.std.proofs.Common.{◌∙◌, subst}
use Rattle.ell_tree.specs.Ledgers.{TreeModel}
use Rattle.ell_tree.specs.LookPlaces.{SeesNext}
use Rattle.ell_tree.proofs.lemmas.LookPlaces.{sees_next}
use Rattle.ell_tree.proofs.tree.Tree.next_at_least.Goals as goal

pub returns-clause-so : goal.returns-clause-so
returns-clause-so g c = next_in c.args.self.now c.next_from.new.pass.view c.args.key c.next_from.result c.next_from.ensures.found

pub returns-clause-sees : goal.returns-clause-sees
returns-clause-sees g c =
    let a = c.next_from in
    subst (λ (t : TreeModel). SeesNext t c.args.key a.result c.args.pass.now a.new.pass) (c.told_to.ensures ∙ c.self.view_is)
    (sees_next c.told_to.result.table.now c.args.pass.now a.new.pass a.ensures.saw a.ensures.only.sight (a.ensures.places c.requires.real) c.args.key a.result a.ensures.found)
