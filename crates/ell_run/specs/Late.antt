use Rattle.std.specs.Prelude.{◌≡◌, ℕ, ◌<◌, ◌≤◌, Bool, not, List, Some, length, filter, slice_get, ◌==◌}
use Rattle.std.specs.List.{enumerate_from, flat_map, list_any}
use Rattle.ell_ops.specs.declared.op.Op.{Op}
use Rattle.ell_ops.specs.Contents.{Contents, ListsPairs}
use Rattle.ell_ops.specs.Meaning.{replies, final}
use Rattle.ell_parts.specs.PartedOps.{PartedOps}
use Rattle.ell_run.specs.declared.runs.Outcome.{Outcome}
use Rattle.ell_run.specs.Pieces.{ArePieces, all_workers, ops_done}
use Rattle.ell_ops.specs.declared.reply.Reply.{Reply}

-- whether an item is for the position
abbrev pub is_answered : List (ℕ × Reply) → ℕ → Bool
is_answered items position = list_any (λ item. item.0 == position) items

-- the operations of a list that no item answers, with their positions
abbrev pub late_ops : List Op → List (ℕ × Reply) → List (ℕ × Op)
late_ops ops items = filter (λ item. not (is_answered items item.0)) (enumerate_from 0 ops)

-- each position's mark says whether an item is for it
pub record AreMarks (items : List (ℕ × Reply)) (marks : List Bool) : Type 0 where
  pub each : (position : ℕ) → position < length marks → slice_get marks position ≡ Some (is_answered items position)

-- all workers have worked from a map, and left these pieces, and these keys with their values
pub record AreLeft (start : Contents) (parting : PartedOps) (pieces : List (List (ℕ × Reply)))
    (pairs : List (ℕ × ℕ)) : Type 0 where
  pub told : ArePieces start parting (all_workers parting) pieces
  pub listed : ListsPairs (final start (ops_done parting (all_workers parting) pieces)) pairs

-- so many operations are late: those that no piece answers, where all workers have worked from a map
pub record IsLate (start : Contents) (parting : PartedOps) (late : ℕ) : Type 0 where
  pub pieces : List (List (ℕ × Reply))
  pub told : ArePieces start parting (all_workers parting) pieces
  pub count : late ≡ length (late_ops parting.ops (flat_map (λ piece. piece) pieces))

-- replies and keys with their values are those of one thread that runs a list from a map
pub record IsOneThreads {Z : Type 0} (start : Contents) (ops : List Op) (outcome : Outcome Z) : Type 0 where
  pub told : outcome.replies.items ≡ replies start ops
  pub listed : ListsPairs (final start ops) outcome.pairs.items

-- what comes of a run of a list from a map: what comes of one thread, and how many operations are late, no more than
-- there are
pub record IsOutcome {Z : Type 0} (start : Contents) (ops : List Op) (parting : PartedOps)
    (outcome : Outcome Z) : Type 0 where
  pub answer : IsOneThreads start ops outcome
  pub few : outcome.late ≤ length ops
  pub late : IsLate start parting outcome.late
