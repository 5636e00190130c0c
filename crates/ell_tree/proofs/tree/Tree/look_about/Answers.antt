-- What a look has found about a key was so in one state since it began.
use Rattle.std.proofs.Common.{◌∙◌, subst}
use Rattle.ell_cards.proofs.lemmas.shown.InRuns.{stretches_are_of_one_state}
use Rattle.ell_tree.specs.Ledgers.{TreeModel}
use Rattle.ell_tree.specs.Scans.{IsFoundAboutIn}
use Rattle.ell_tree.specs.LookPlaces.{SeesAround}
use Rattle.ell_tree.proofs.lemmas.LookPlaces.{sees_around}
use Rattle.ell_tree.proofs.tree.Tree.look_about.Goals as goal

pub returns-clause-so : goal.returns-clause-so
returns-clause-so g c =
    let a = c.look_about in
    subst (λ (t : TreeModel). IsFoundAboutIn t a.new.pass.view a.result) (c.told_to.ensures ∙ c.self.view_is)
    (stretches_are_of_one_state c.told_to.result.table.now.plan a.new.pass.view a.result.low a.result.high a.result.found a.ensures.found)

pub returns-clause-sees : goal.returns-clause-sees
returns-clause-sees g c =
    let a = c.look_about in
    subst (λ (t : TreeModel). SeesAround t a.result c.args.pass.now a.new.pass) (c.told_to.ensures ∙ c.self.view_is)
    (sees_around c.told_to.result.table.now c.args.pass.now a.new.pass a.ensures.saw a.ensures.only.sight a.ensures.places a.result a.ensures.found)
