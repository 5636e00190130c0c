use Rattle.std.proofs.Common.{◌≡◌, take, length}
use Rattle.std.specs.List.{flat_map}
use Rattle.ell_parts.specs.Gathering.{IsPlaced}
use Rattle.ell_parts.proofs.gathering.gather.Given as goal

-- the items of the pieces so far are placed
abbrev pub invariant-loop-piece : goal.invariant-loop-piece
invariant-loop-piece g l = record {
  answered : length l.answered.items ≡ l.n;
  replies : length l.replies.items ≡ l.n;
  placed : IsPlaced (flat_map (λ piece. piece.items) (take l.piece-index l.pieces)) l.answered.items l.replies.items;
}
