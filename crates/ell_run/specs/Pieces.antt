use Rattle.std.specs.Prelude.{◌≡◌, ℕ, ◌+◌, ◌≤◌, nat_lt, if◌then◌else◌, List, [], ◌∷◌, ◌++◌, Some, length, map, filter, take, slice_get, slice_index_or, Vec}
use Rattle.std.specs.List.{range_with_len, zip}
use Rattle.ell_ops.specs.declared.op.Op.{Op}
use Rattle.ell_ops.specs.Contents.{Contents}
use Rattle.ell_ops.specs.Meaning.{reply_of, replies, final}
use Rattle.ell_tree.specs.Effects.{reply_of_change}
use Rattle.ell_parts.specs.PartedOps.{PartedOps, part}
use Rattle.ell_run.specs.ByParts.{ops_in}
use Rattle.ell_ops.specs.declared.reply.Reply.{Reply}

-- replies, with the positions of the operations that they are for
abbrev pub numbered : List (ℕ × Op) → List Reply → List (ℕ × Reply)
numbered items said = map (λ answered. (answered.0.0, answered.1)) (zip items said)

-- the replies to numbered operations from a map, with their positions
abbrev pub piece_from : Contents → List (ℕ × Op) → List (ℕ × Reply)
piece_from set items = numbered items (replies set (ops_in items))

-- the front of a part that a piece answers
abbrev pub front : List (ℕ × Op) → List (ℕ × Reply) → List (ℕ × Op)
front items piece = take (length piece) items

-- a piece has the replies of a front of a part, done from a map; the operation behind it, if there is one, would change
-- the map
pub record IsPiece (set : Contents) (items : List (ℕ × Op)) (piece : List (ℕ × Reply)) : Type 0 where
  pub few : length piece ≤ length items
  pub done : piece ≡ piece_from set (front items piece)
  pub not_done : (position : ℕ) (op : Op) → slice_get items (length piece) ≡ Some (position, op) →
      reply_of op (final set (ops_in (front items piece))) ≡ reply_of_change op

-- one piece for each worker, in their order, each done from a map
abbrev pub ArePieces : Contents → PartedOps → List ℕ → List (List (ℕ × Reply)) → Type 0
ArePieces set parting [] [] = Unit {0}
ArePieces set parting [] (piece ∷ pieces) = ⊥
ArePieces set parting (worker ∷ workers) [] = ⊥
ArePieces set parting (worker ∷ workers) (piece ∷ pieces) =
    IsPiece set (part parting worker) piece × ArePieces set parting workers pieces

-- pieces as lists of what each says
abbrev pub lists_of : {Z : Type 0} → List (Vec (ℕ × Reply) Z) → List (List (ℕ × Reply))
lists_of pieces = map (λ piece. piece.items) pieces

-- how many operations of its part a worker's piece answers
abbrev pub count_of : List (List (ℕ × Reply)) → ℕ → ℕ
count_of pieces worker = length (slice_index_or pieces worker [])

-- the operations that the pieces of workers answer, worker by worker
abbrev pub ops_done : PartedOps → List ℕ → List (List (ℕ × Reply)) → List Op
ops_done parting [] pieces = []
ops_done parting (worker ∷ workers) [] = []
ops_done parting (worker ∷ workers) (piece ∷ pieces) =
    ops_in (front (part parting worker) piece) ++ ops_done parting workers pieces

-- how many operations stand just behind a piece in its part: one where it leaves something of it
abbrev pub one_not_done : List (ℕ × Op) → List (ℕ × Reply) → ℕ
one_not_done items piece = if nat_lt (length piece) (length items) then 1 else 0

-- how many workers' pieces leave something of their parts
abbrev pub all_not_done : PartedOps → List ℕ → List (List (ℕ × Reply)) → ℕ
all_not_done parting [] pieces = 0
all_not_done parting (worker ∷ workers) [] = 0
all_not_done parting (worker ∷ workers) (piece ∷ pieces) =
    one_not_done (part parting worker) piece + all_not_done parting workers pieces

-- all workers, ascending
abbrev pub all_workers : PartedOps → List ℕ
all_workers parting = range_with_len 0 parting.workers

-- the workers that have something to do, ascending
abbrev pub busy : PartedOps → List ℕ
busy parting = filter (λ worker. nat_lt 0 (length (part parting worker))) (all_workers parting)
