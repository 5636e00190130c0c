use Rattle.std.specs.Prelude.{◌≡◌, ℕ, List, Some, take, drop, slice_get, slice_index}
use Rattle.ell_ops.specs.declared.Op.{Op}
use Rattle.ell_ops.specs.Contents.{Contents}
use Rattle.ell_ops.specs.Meaning.{key_of, final}
pub use Rattle.ell_order.specs.Orders.{on_key, ops_in, ReplyAlike}
use Rattle.ell_parts.specs.PartedOps.{PartedOps, IsLawful, part}

-- each operation on the key is the worker's
abbrev pub WorkerHasKey : PartedOps → ℕ → ℕ → Type 0
WorkerHasKey parting worker key =
    (i : ℕ) (op : Op) → slice_get parting.ops i ≡ Some op → key_of op ≡ key → slice_index parting.owners i ≡ worker

-- the front of a worker's part that it has done
abbrev pub done : PartedOps → (ℕ → ℕ) → ℕ → List (ℕ × Op)
done parting counts worker = take (counts worker) (part parting worker)

-- the rest: its operations on each key are those that the key's worker has not done, in their order
abbrev pub IsRest : PartedOps → (ℕ → ℕ) → List (ℕ × Op) → Type 0
IsRest parting counts rest = (worker key : ℕ) → WorkerHasKey parting worker key →
    on_key key rest ≡ on_key key (drop (counts worker) (part parting worker))

-- each worker has done a front of its part, from the map: each key is as its worker left it
abbrev pub AreDone : Contents → PartedOps → (ℕ → ℕ) → Contents → Type 0
AreDone set parting counts after = (worker key : ℕ) → WorkerHasKey parting worker key →
    after key ≡ final set (ops_in (done parting counts worker)) key

-- what comes out of it
pub record IsAsOneThread (set : Contents) (parting : PartedOps) (counts : ℕ → ℕ) (after : Contents)
    (rest : List (ℕ × Op)) : Type 0 where
  pub early : (worker : ℕ) → ReplyAlike set (done parting counts worker) set parting.ops
  pub late : ReplyAlike after rest set parting.ops
  pub final : final after (ops_in rest) ≡ final set parting.ops

-- parts done up to any point, in any interleaving, and then the rest, are the whole list done by one thread
abbrev pub PartsServe : Type 0
PartsServe = (set : Contents) (parting : PartedOps) (counts : ℕ → ℕ) (after : Contents) (rest : List (ℕ × Op)) →
    IsLawful parting → AreDone set parting counts after → IsRest parting counts rest →
    IsAsOneThread set parting counts after rest
