use Rattle.std.specs.Prelude.{◌≡◌, ℕ, ◌<◌, ◌≤◌, Some, max}
use Rattle.ell_cards.specs.Frames.{LeavesTree, StandsStill}
use Rattle.ell_cards.specs.Epochs.{last_epoch}
use Rattle.ell_cards.proofs.table.CardTable.scan.Given as goal

-- So many announcements were looked at since the epoch was read, and this is the least number that was seen. If there
-- are no more announcements, that is what the pass has seen at all announcements, and the number is the safe one,
-- unless the last one is greater.
abbrev pub invariant-loop-announcement : goal.invariant-loop-announcement
invariant-loop-announcement g l = record {
  leaves : LeavesTree l.fn.seat l.seat;
  still : StandsStill l.fn.seat.me.0.participant l.seat.me.0.participant;
  retired : l.seat.me.0.participant.retired ≡ l.fn.seat.me.0.participant.retired;
  looked : l.seat.me.0.participant.looked ≡ l.announcement;
  least : l.seat.me.0.participant.least ≡ l.least;
  unsettled : l.announcement < l.slots.announcements → l.seat.me.0.participant.safe_epoch ≡ l.fn.seat.me.0.participant.safe_epoch;
  epoch : l.seat.me.0.participant.epoch ≡ Some l.epoch;
  later : (n : ℕ) → l.fn.seat.me.0.participant.epoch ≡ Some n → n ≤ l.epoch;
  since : l.fn.seat.me.0.participant.surveyed.epoch ≤ l.epoch;
  low : l.epoch ≤ last_epoch;
  surveyed : l.slots.announcements ≤ l.announcement → l.seat.me.0.participant.surveyed ≡ record { epoch = l.epoch; least = l.least };
  safe_epoch : l.slots.announcements ≤ l.announcement → l.seat.me.0.participant.safe_epoch ≡ max l.least l.fn.seat.me.0.participant.safe_epoch;
}
