use Rattle.std.proofs.Common.{◌≡◌, max}
use Rattle.ell_cards.specs.Models.{PassModel, one_more}
use Rattle.ell_runs.specs.Changes.{joined_view}
use Rattle.ell_runs.specs.Sights.{joined_sight}
use Rattle.ell_tree.specs.PassParts.{IsUnion}
use Rattle.ell_tree.proofs.lemmas.PassParts.{if_ok, union}
use Rattle.ell_tree.proofs.tree.Tree.join.Goals as goal

pub returns-clause-joined : goal.returns-clause-joined
returns-clause-joined g c =
    let left = c.args.left in
    let right = c.args.right in
    if_ok
    (λ (both : PassModel). both ≡ record left { view = joined_view left.view right.view; steps = one_more (max left.steps right.steps); sight = joined_sight left.sight right.sight })
    (IsUnion left right) c.join.result (λ both e. union left right both e) c.join.ensures.joined
