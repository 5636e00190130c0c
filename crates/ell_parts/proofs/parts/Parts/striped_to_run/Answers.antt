use Rattle.std.proofs.Common.{rules}
use Rattle.ell_parts.specs.PartedOps.{IsWorkerCount}
use Rattle.ell_parts.proofs.lemmas.Partings.{striped_is_lawful}
use Rattle.ell_parts.proofs.parts.Parts.striped_to_run.Goals as goal

pub to_run-requires-after_bounds : goal.to_run-requires-after_bounds
to_run-requires-after_bounds g c =
    let count : IsWorkerCount c.args.workers = search rules in
    rw c.in_ok-stripes.ensures (λ _ _. striped_is_lawful c.args.ops.now c.args.workers count)
