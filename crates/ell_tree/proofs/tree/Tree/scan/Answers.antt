-- What a scan has found of each key was so in one state since it began.
use Rattle.ell_tree.proofs.lemmas.Scans.{each_in}
use Rattle.std.proofs.Common.{◌∙◌, subst}
use Rattle.ell_tree.specs.Ledgers.{TreeModel}
use Rattle.ell_tree.specs.Scans.{end_of, written}
use Rattle.ell_ops.specs.Contents.{contents_of}
use Rattle.ell_tree.specs.LookPlaces.{SeesScan}
use Rattle.ell_tree.proofs.lemmas.LookPlaces.{sees_scan}
use Rattle.ell_tree.proofs.tree.Tree.scan.Goals as goal

pub returns-clause-so : goal.returns-clause-so
returns-clause-so g c = each_in c.args.self.now c.scan.new.pass.view c.args.from _ _ c.scan.ensures.found

pub returns-clause-sees : goal.returns-clause-sees
returns-clause-sees g c =
    let a = c.scan in
    subst (λ (t : TreeModel). SeesScan t c.args.from (end_of c.args.upto a.result) (contents_of (written a.new.room a.result)) c.args.pass.now a.new.pass) (c.told_to.ensures ∙ c.self.view_is)
    (sees_scan c.told_to.result.table.now c.args.pass.now a.new.pass a.ensures.saw a.ensures.only.sight c.args.from (end_of c.args.upto a.result) (contents_of (written a.new.room a.result)) a.ensures.places a.ensures.found)
