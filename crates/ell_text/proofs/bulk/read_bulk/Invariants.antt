-- So far no line has a fault, and the bulk is what the lines before the rest say.
use Rattle.std.proofs.Common.{◌+◌, ◌≤◌, length}
use Rattle.ell_text.specs.Bulk.{BulkFits, bulk_value}
use Rattle.ell_text.specs.Lines.{lines}
use Rattle.ell_text.proofs.lemmas.Operations.{IsReadTo}
use Rattle.ell_text.proofs.bulk.read_bulk.Given as goal

abbrev pub invariant-lines : goal.invariant-lines
invariant-lines g l = record {
  read : IsReadTo (lines l.fn.bytes) (lines l.rest) l.number (bulk_value l.bulk);
  fits : BulkFits (bulk_value l.bulk);
  counted : l.number + length l.rest ≤ length l.fn.bytes;
}

abbrev pub decreases-lines : goal.decreases-lines
decreases-lines g l = length l.rest
