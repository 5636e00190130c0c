use Rattle.std.proofs.Common.{refl, subst}
use Rattle.std.specs.Prelude.{false}
use Rattle.ell_parts.specs.Made.{AreParts}
use Rattle.ell_parts.proofs.lemmas.Making.{have_keys, lawful_made, made_in_turn}
use Rattle.ell_parts.proofs.parts.Parts.of.Goals as goal

pub invariant_of-result : goal.invariant_of-result
invariant_of-result g c =
    let ops = c.args.ops.now in
    let owners = c.args.owners.items in
    let parts = c.in_ok-parts.parts.items in
    let are : AreParts false ops owners c.args.workers parts =
    subst (λ l. AreParts false ops l c.args.workers parts) c.deref.ensures.value c.in_ok-parts.ensures in
    (lawful_made false ops owners c.args.workers parts are c.requires, have_keys false ops owners c.args.workers parts are)

pub returns : goal.returns
returns g c =
    let ops = c.args.ops.now in
    let owners = c.args.owners.items in
    let parts = c.in_ok-parts.parts.items in
    let are : AreParts false ops owners c.args.workers parts =
    subst (λ l. AreParts false ops l c.args.workers parts) c.deref.ensures.value c.in_ok-parts.ensures in
    made_in_turn false ops owners c.args.workers parts are refl
