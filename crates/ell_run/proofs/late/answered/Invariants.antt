use Rattle.std.proofs.Common.{◌≡◌, take, length}
use Rattle.std.specs.List.{flat_map}
use Rattle.ell_run.specs.Late.{AreMarks}
use Rattle.ell_run.proofs.late.answered.Given as goal

-- the items of the pieces so far are marked
abbrev pub invariant-loop-piece : goal.invariant-loop-piece
invariant-loop-piece g l = record {
  count : length l.answered.items ≡ l.n;
  marks : AreMarks (flat_map (λ piece. piece.items) (take l.piece-index l.pieces)) l.answered.items;
}
