use Rattle.std.specs.Prelude.{◌≡◌}
use Rattle.ell_cards.specs.Frames.{LeavesTree}
use Rattle.ell_cards.proofs.table.CardTable.find_announcement.Given as goal

-- no announcement was taken so far
abbrev pub invariant-loop-looks : goal.invariant-loop-looks
invariant-loop-looks g l =
    LeavesTree l.fn.seat l.seat × (l.seat.me.0.participant ≡ l.fn.seat.me.0.participant)
