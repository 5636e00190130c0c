use Rattle.std.proofs.Common.{refl, subst}
use Rattle.ell_order.specs.Orders.{is_reordered}
use Rattle.ell_parts.specs.Made.{AreParts}
use Rattle.ell_parts.proofs.lemmas.Making.{have_keys, lawful_made, made_to_run}
use Rattle.ell_parts.proofs.parts.Parts.to_run.Goals as goal

pub invariant_of-result : goal.invariant_of-result
invariant_of-result g c =
    let ops = c.args.ops.now in
    let owners = c.args.owners.items in
    let parts = c.in_ok-parts.parts.items in
    let are : AreParts (is_reordered ops) ops owners c.args.workers parts =
    subst (λ l. AreParts (is_reordered ops) ops l c.args.workers parts) c.deref.ensures.value c.in_ok-parts.ensures in
    (lawful_made (is_reordered ops) ops owners c.args.workers parts are c.requires, have_keys (is_reordered ops) ops owners c.args.workers parts are)

pub returns : goal.returns
returns g c =
    let ops = c.args.ops.now in
    let owners = c.args.owners.items in
    let parts = c.in_ok-parts.parts.items in
    let are : AreParts (is_reordered ops) ops owners c.args.workers parts =
    subst (λ l. AreParts (is_reordered ops) ops l c.args.workers parts) c.deref.ensures.value c.in_ok-parts.ensures in
    made_to_run (is_reordered ops) ops owners c.args.workers parts are refl c.requires
