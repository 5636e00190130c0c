use Rattle.std.proofs.Common.{inl, ap, rules, arith}
use Rattle.ell_ops.specs.declared.op.Op.TheVariants.{Find, Insert}
use Rattle.ell_ops.specs.declared.reply.Reply.TheVariants.{No}
use Rattle.ell_ops.specs.Meaning.{found}
use Rattle.ell_tree.specs.Called.{tries_in}
use Rattle.ell_tree.specs.Ends.{Answers}
use Rattle.ell_tree.proofs.lemmas.Computing.{untouched_by, untouched_trans, concludes, find_leaves, found_not_yes, insert_leaves, not_there}
use Rattle.ell_tree.proofs.computing.add.Goals as goal

-- the key was there: nothing was added, and it was found
pub returns-in-None-clause-replaces : goal.returns-in-None-clause-replaces
returns-in-None-clause-replaces g c =
    let t = c.args.steps.table.now in
    let key = c.args.key in
    let first = c.args.pass.now in
    let refused = c.change.new.pass in
    let last = c.find.new.pass in
    let said : Answers t (Insert key c.args.value) No first refused = search rules in
    let left = untouched_by t (Insert key c.args.value) No first refused (insert_leaves t key c.args.value first refused said) (λ e. cc) said in
    let read = untouched_by t (Find key) (found c.find.result) refused last (find_leaves key refused) (found_not_yes c.find.result) c.find.ensures.answers in (
      untouched_trans first refused last left read,
      inl (concludes t (Find key) (found c.find.result) first refused last left c.find.ensures.answers),
      not_there t key c.args.value first refused said,
      (let added = ap tries_in said.sees.mine in let found = ap tries_in c.find.ensures.answers.sees.mine in omega (arith, added, found)),
    )
