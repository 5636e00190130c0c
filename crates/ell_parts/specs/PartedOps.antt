use Rattle.std.specs.Prelude.{◌≡◌, ℕ, ◌/◌, ◌%◌, ◌<◌, ◌≤◌, ◌==◌, List, [], Some, length, map, filter, slice_get, slice_index, slice_index_or}
use Rattle.std.specs.Int.{div_ceil}
use Rattle.std.specs.List.{enumerate_from, range_with_len}
use Rattle.ell_ops.specs.declared.op.Op.{Op}
use Rattle.ell_ops.specs.KeySet.{KeySet, set_of, Lists}
use Rattle.ell_ops.specs.Meaning.{key_of, most_workers}
use Rattle.ell_order.specs.Orders.{IsRunOrder, KeepsKeys, is_reordered}
use Rattle.ell_order.specs.Rounds.{rank}
pub use Rattle.ell_order.specs.Orders.{keys_of_part}

-- a list, the worker of each of its positions, how many workers there are, and the part of each: its operations with
-- their positions
pub record PartedOps : Type 0 where
  pub ops : List Op
  pub owners : List ℕ
  pub workers : ℕ
  pub parts : List (List (ℕ × Op))

-- the part of a worker
abbrev pub part : PartedOps → ℕ → List (ℕ × Op)
part parting worker = slice_index_or parting.parts worker []

-- the operations of a worker with their positions, in the order of the list
abbrev pub dealt : List Op → List ℕ → ℕ → List (ℕ × Op)
dealt ops owners worker = filter (λ item. slice_index owners item.0 == worker) (enumerate_from 0 ops)

-- a list parted by the owners of its positions into these parts
abbrev pub made : List Op → List ℕ → List (List (ℕ × Op)) → PartedOps
made ops owners parts = record { ops = ops; owners = owners; workers = length parts; parts = parts }

-- a list parted by the owners of its positions among so many workers, each part in the order of the list
abbrev pub parted : List Op → List ℕ → ℕ → PartedOps
parted ops owners workers =
    record { ops = ops; owners = owners; workers = workers; parts = map (dealt ops owners) (range_with_len 0 workers) }

-- the number of workers is one that may be
pub record IsWorkerCount (workers : ℕ) : Type 0 where
  pub some : 1 ≤ workers
  pub few : workers ≤ most_workers

-- equal keys have equal workers
abbrev pub KeepsKeysTogether : List Op → List ℕ → Type 0
KeepsKeysTogether ops owners = (i j : ℕ) (a b : Op) → slice_get ops i ≡ Some a → slice_get ops j ≡ Some b →
    key_of a ≡ key_of b → slice_index owners i ≡ slice_index owners j

-- each position has one of the workers, and equal keys have equal workers; each worker's part has its operations, each
-- key's in the order of the list
pub record IsLawful (parting : PartedOps) : Type 0 where
  pub count : IsWorkerCount parting.workers
  pub each : length parting.owners ≡ length parting.ops
  pub known : (i : ℕ) → i < length parting.owners → slice_index parting.owners i < parting.workers
  pub together : KeepsKeysTogether parting.ops parting.owners
  pub parts : length parting.parts ≡ parting.workers
  pub keeps : (worker : ℕ) → worker < parting.workers
      → KeepsKeys (dealt parting.ops parting.owners worker) (part parting worker)

-- the parting by these owners, which is lawful
abbrev pub IsPartedBy : List Op → List ℕ → ℕ → PartedOps → Type 0
IsPartedBy ops owners workers parting = (parting ≡ parted ops owners workers) × IsLawful parting

-- the parting by these owners, which is lawful, with each part in the order in which it is run
pub record IsPartedToRun (ops : List Op) (owners : List ℕ) (workers : ℕ) (parting : PartedOps) : Type 0 where
  pub all : parting.ops ≡ ops
  pub owned : parting.owners ≡ owners
  pub count : parting.workers ≡ workers
  pub lawful : IsLawful parting
  pub order : (worker : ℕ) → worker < workers
      → IsRunOrder (is_reordered ops) (dealt ops owners worker) (part parting worker)

-- the set of the keys in a list of operations
abbrev pub keys_of_ops : List Op → KeySet
keys_of_ops ops = set_of (map key_of ops)

-- in stripes: a key goes to the worker whose number is its remainder by the number of workers
abbrev pub striped : List Op → ℕ → List ℕ
striped ops workers = map (λ op. key_of op % workers) ops

-- in ranges: of n keys in ascending order each worker has the next n / workers, rounded up
abbrev pub ranged : List ℕ → List Op → ℕ → List ℕ
ranged keys ops workers = map (λ op. rank keys (key_of op) / div_ceil (length keys) workers) ops

-- the owners are those in ranges, by the list of the distinct keys, ascending
abbrev pub IsRanged : PartedOps → Type 0
IsRanged parting =
    (keys : List ℕ) → Lists (keys_of_ops parting.ops) keys → parting.owners ≡ ranged keys parting.ops parting.workers
