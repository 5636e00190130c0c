use Rattle.std.proofs.Common.{◌≢◌, Some, rules}
use Rattle.ell_ops.specs.declared.op.Op.TheVariants.{Find}
use Rattle.ell_ops.specs.Meaning.{found}
use Rattle.ell_tree.specs.Computing.{IsUntouched}
use Rattle.ell_tree.specs.Ledgers.{Owns, present_in}
use Rattle.ell_tree.proofs.lemmas.Computing.{untouched_by, untouched_trans, concludes, find_leaves, found_not_yes}
use Rattle.ell_tree.proofs.removing.remove_or_read.Goals as goal

-- another value was there, or none, and the key was read
pub returns-else-branch-clause-removes : goal.returns-else-branch-clause-removes
returns-else-branch-clause-removes g c =
    let t = c.args.steps.table.now in
    let key = c.args.key in
    let old = c.args.pass.now in
    let left = c.remove_once.new.pass in
    let new = c.find.new.pass in
    let said = c.find.ensures.answers in
    let lost : IsUntouched old left × (Owns old key → present_in old key ≢ Some c.args.was) = search rules in (
      untouched_trans old left new lost.0 (untouched_by t (Find key) (found c.find.result) left new (find_leaves key left) (found_not_yes c.find.result) said),
      concludes t (Find key) (found c.find.result) old left new lost.0 said,
      lost.1,
    )
