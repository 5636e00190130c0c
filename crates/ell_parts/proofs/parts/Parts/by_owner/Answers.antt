use Rattle.std.proofs.Common.{◌≡◌, ◌<◌, ℕ, rules, length, get_or}
use Rattle.ell_parts.specs.PartedOps.{IsWorkerCount}
use Rattle.ell_parts.proofs.lemmas.Partings.{lawful_from_checks}
use Rattle.ell_parts.proofs.parts.Parts.by_owner.Goals as goal

pub of-requires : goal.of-requires
of-requires g c =
    let count : IsWorkerCount c.args.workers = search rules in
    let each : length c.args.owners.now ≡ length c.args.ops.now = search rules in
    let known : (k : ℕ) → k < length c.args.owners.now → get_or c.args.owners.now k 0 < c.args.workers = search rules in
    rw c.in_ok-owners.ensures.items
    (lawful_from_checks c.args.ops.now c.args.owners.now c.args.workers (record { count = count; each = each }) known c.in_ok-keep_together.ensures.ok)
