use Rattle.ell_cards.specs.Models.{PassModel, Steps, StepsOut}
use Rattle.ell_runs.specs.Changes.{left_view, right_view}
use Rattle.ell_tree.specs.PassParts.{IsLeftPart, IsRightPart}
use Rattle.ell_tree.proofs.lemmas.PassParts.{if_ok, left_part, right_part}
use Rattle.ell_tree.proofs.tree.Tree.split.Goals as goal

pub returns-clause-left : goal.returns-clause-left
returns-clause-left g c =
    let keys = c.args.left_keys.now in
    let p = c.args.pass in
    if_ok (λ (parts : PassModel × PassModel). Steps p parts.0 (left_view keys p.view)) (λ (parts : PassModel × PassModel). IsLeftPart keys p parts.0)
    c.split.result (λ parts s. left_part keys p parts.0 s) c.split.ensures.left

pub returns-clause-right : goal.returns-clause-right
returns-clause-right g c =
    let keys = c.args.left_keys.now in
    let p = c.args.pass in
    if_ok (λ (parts : PassModel × PassModel). StepsOut p parts.1 (right_view keys p.view)) (λ (parts : PassModel × PassModel). IsRightPart keys p parts.1)
    c.split.result (λ parts s. right_part keys p parts.1 s) c.split.ensures.right
