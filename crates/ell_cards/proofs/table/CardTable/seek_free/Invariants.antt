use Rattle.std.specs.Prelude.{◌≡◌, ◌≤◌, true}
use Rattle.ell_cards.specs.SlotWords.{has_slot_in}
use Rattle.ell_cards.proofs.table.CardTable.seek_free.Given as goal

-- so many slots were read in a row
abbrev pub invariant-loop-read : goal.invariant-loop-read
invariant-loop-read g l = record {
  pass : l.pass ≡ l.fn.pass;
  from : l.fn.card ≤ l.next;
  slot : has_slot_in l.slots.last l.next ≡ true;
}
