-- The filled front of the list is what the reader gave so far.
use Rattle.std.proofs.Common.{◌+◌, ◌-◌, ◌≤◌, take, vec_len}
use Rattle.std.specs.Io.KnownBytes.{Consumes}
use Rattle.ell_text.specs.Limits.{most_bytes}
use Rattle.ell_text.specs.declared.input.TheConstants.{READ_ROOM}
use Rattle.ell_text.proofs.input.read_all.Given as goal

abbrev pub invariant-loop-filled : goal.invariant-loop-filled
invariant-loop-filled g l = record {
  filled : l.filled ≤ vec_len l.bytes;
  within : vec_len l.bytes ≤ most_bytes + READ_ROOM;
  given : Consumes (g.R.Read.remaining l.initial.reader) (g.R.Read.remaining l.reader) (take l.filled l.bytes.items);
}

abbrev pub decreases-loop-filled : goal.decreases-loop-filled
decreases-loop-filled g l = most_bytes + 1 - l.filled
