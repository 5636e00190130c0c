use Rattle.std.proofs.Common.{rules}
use Rattle.ell_cards.proofs.table.CardTable.retire_cut.Goals as goal

-- what is known of the leaf is known still
pub retire_taken_out-requires-else-card_of-above-clause-taken : goal.retire_taken_out-requires-else-card_of-above-clause-taken
retire_taken_out-requires-else-card_of-above-clause-taken g c =
    rw c.retire_taken_out.ensures.same
    (c.args.card, c.requires.cut.hand.holds, search rules)
