use Rattle.std.proofs.Common.{rules, ap, ◌∙◌}
use Rattle.ell_ops.proofs.lemmas.Sets.{one_list}
use Rattle.ell_parts.specs.PartedOps.{IsWorkerCount, keys_of_ops, ranged}
use Rattle.ell_parts.proofs.lemmas.Partings.{ranged_is_lawful}
use Rattle.ell_parts.proofs.parts.Parts.ranged_to_run.Goals as goal

pub to_run-requires-after_bounds : goal.to_run-requires-after_bounds
to_run-requires-after_bounds g c =
    let count : IsWorkerCount c.args.workers = search rules in
    rw (c.in_ok-ranges.ensures, c.deref.ensures.value) (λ _ _. ranged_is_lawful c.args.ops.now c.in_ok-keys.keys.items c.args.workers count c.in_ok-keys.ensures)

pub returns-clause-ranged : goal.returns-clause-ranged
returns-clause-ranged g c =
    let ops = c.args.ops.now in
    let made = c.in_ok-to_run.ensures in
    rw (made.all, made.count)
    (λ keys listed. made.owned ∙ c.in_ok-ranges.ensures
    ∙ ap (λ k. ranged k ops c.args.workers) (c.deref.ensures.value ∙ one_list (keys_of_ops ops) c.in_ok-keys.keys.items keys c.in_ok-keys.ensures listed))
