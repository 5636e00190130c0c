use Rattle.std.proofs.Common.{◌≢◌, Some, inr, sym, ap, ◌∙◌, rules, arith}
use Rattle.ell_ops.specs.declared.op.Op.TheVariants.{Swap}
use Rattle.ell_ops.specs.Meaning.{found}
use Rattle.ell_tree.specs.Called.{tries_in}
use Rattle.ell_tree.specs.Ends.{Answers}
use Rattle.ell_tree.proofs.lemmas.Computing.{is_one, swapped, untouched_by, untouched_self, concludes, swap_leaves, not_one, found_one}
use Rattle.ell_tree.proofs.computing.replace.Goals as goal

-- the value was there, and another is in its place
pub returns-then-eq-clause-replaces : goal.returns-then-eq-clause-replaces
returns-then-eq-clause-replaces g c =
    let t = c.args.steps.table.now in
    let key = c.args.key in
    let was = c.in-Some.was in
    let there = c.in_ok-there.there in
    let old = c.args.pass.now in
    let new = c.change.new.pass in
    let said : Answers t (Swap key was c.args.value) (found there) old new = search rules in
    swapped t key c.args.value c.args.was there was old new c.in-Some.is (is_one there was (sym c.eq.ensures ∙ c.if-eq.true)) said

-- another value was there, or none: the swap has changed nothing
pub returns-else-eq-clause-replaces : goal.returns-else-eq-clause-replaces
returns-else-eq-clause-replaces g c =
    let t = c.args.steps.table.now in
    let key = c.args.key in
    let was = c.in-Some.was in
    let there = c.in_ok-there.there in
    let old = c.args.pass.now in
    let new = c.change.new.pass in
    let other : there ≢ Some was = not_one there was (sym c.eq.ensures ∙ c.if-eq.false) in
    let said : Answers t (Swap key was c.args.value) (found there) old new = search rules in (
      untouched_by t (Swap key was c.args.value) (found there) old new (swap_leaves t key was c.args.value there old new other said) (λ e. other (found_one there (Some was) e)) said,
      inr (was, c.args.value, other, concludes t (Swap key was c.args.value) (found there) old old new (untouched_self old c.requires.may.idle) said),
      λ owns same. other (found_one there _ (said.says owns) ∙ (same ∙ c.in-Some.is)),
      (let more = ap tries_in said.sees.mine in omega (arith, more)),
    )
