use Rattle.std.proofs.Common.{sym}
use Rattle.ell_run.proofs.lemmas.SideBySide.{all_in_rounds}
use Rattle.ell_run.proofs.reservation.counts_of_list.Goals as goal

pub counts_of_parts-requires-clause-rounds : goal.counts_of_parts-requires-clause-rounds
counts_of_parts-requires-clause-rounds g c =
    λ _ _. all_in_rounds c.args.ops.now c.args.parts.now c.requires.parted (sym c.if-not-is_reordered.ensures)
