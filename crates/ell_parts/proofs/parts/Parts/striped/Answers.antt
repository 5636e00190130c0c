use Rattle.std.proofs.Common.{rules}
use Rattle.ell_parts.specs.PartedOps.{IsWorkerCount}
use Rattle.ell_parts.proofs.lemmas.Partings.{striped_is_lawful}
use Rattle.ell_parts.proofs.parts.Parts.striped.Goals as goal

pub of-requires : goal.of-requires
of-requires g c =
    let count : IsWorkerCount c.args.workers = search rules in
    rw c.in_ok-owners.ensures (striped_is_lawful c.args.ops.now c.args.workers count)
