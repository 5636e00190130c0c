use Rattle.std.specs.Prelude.{◌≡◌, ◌≤◌, Some, false}
use Rattle.ell_cards.specs.Frames.{KeepsSafeEpoch, LeavesTree, StandsStill}
use Rattle.ell_cards.specs.RetiringInSlots.{MayRetireIn}
use Rattle.ell_cards.specs.Retiring.{how_many_retired, is_done, retires_if}
use Rattle.ell_cards.specs.SlotWords.{slot_of}
use Rattle.ell_cards.proofs.table.CardTable.retire_dead.Given as goal

-- The pass has read this word of the card's slot, and has retired the nodes if the word shows that none is left. If
-- some are, it may retire them there, and as many nodes are retired by the word as it has tried to exchange words.
abbrev pub invariant-loop : goal.invariant-loop
invariant-loop g l = record {
  leaves : LeavesTree l.fn.seat l.seat;
  still : StandsStill l.fn.seat.me.0.participant l.seat.me.0.participant;
  keeps : KeepsSafeEpoch l.fn.seat.me.0.participant l.seat.me.0.participant;
  read : l.seat.me.0.participant.read ≡ Some (record { slot = slot_of l.fn.card; word = l.word });
  retired : l.seat.me.0.participant.retired ≡ retires_if (is_done l.fn.whose l.fn.card l.fn.nodes l.word) l.fn.whose l.fn.nodes l.fn.seat.me.0.participant.retired;
  may : is_done l.fn.whose l.fn.card l.fn.nodes l.word ≡ false → MayRetireIn l.fn.seat.me.0.tree l.fn.whose l.fn.card l.fn.nodes l.word;
  more : is_done l.fn.whose l.fn.card l.fn.nodes l.word ≡ false → l.counter ≤ how_many_retired l.word;
}
