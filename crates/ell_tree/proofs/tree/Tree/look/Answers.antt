-- What a look has found was so in one state since it began.
use Rattle.ell_cards.proofs.lemmas.shown.InRuns.{looks_are_of_one_state}
use Rattle.std.proofs.Common.{◌∙◌, subst}
use Rattle.ell_tree.specs.Ledgers.{TreeModel}
use Rattle.ell_tree.specs.LookPlaces.{SeesThere}
use Rattle.ell_tree.proofs.lemmas.LookPlaces.{sees_there}
use Rattle.ell_tree.proofs.tree.Tree.look.Goals as goal

pub returns-clause-so : goal.returns-clause-so
returns-clause-so g c =
    looks_are_of_one_state c.args.self.now.plan c.look.new.pass.view c.args.key c.look.result c.look.ensures.found

pub returns-clause-sees : goal.returns-clause-sees
returns-clause-sees g c =
    let a = c.look in
    subst (λ (t : TreeModel). SeesThere t c.args.key a.result c.args.pass.now a.new.pass) (c.told_to.ensures ∙ c.self.view_is)
    (sees_there c.told_to.result.table.now c.args.pass.now a.new.pass a.ensures.saw a.ensures.only.sight a.ensures.places c.args.key a.result a.ensures.found)
