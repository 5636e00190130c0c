use Rattle.std.proofs.Common.{◌+◌, subst, sym}
use Rattle.ell_parts.specs.Made.{AreParts}
use Rattle.ell_parts.proofs.lemmas.Making.{one_more}
use Rattle.ell_parts.proofs.part.parts_in_turn.Goals as goal

pub loop-worker-preserved : goal.loop-worker-preserved
loop-worker-preserved g c =
    subst (AreParts c.args.rounds c.args.ops.now c.args.owners.now (c.loop-worker.worker + 1)) (sym c.in_ok-push.ensures.items)
    (one_more c.args.rounds c.args.ops.now c.args.owners.now c.loop-worker.worker c.loop-worker.parts.items c.in_ok-part_of.field-0
    c.loop-worker.invariant c.in_ok-part_of.ensures)
