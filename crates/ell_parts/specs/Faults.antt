use Rattle.std.specs.Prelude.{◌≡◌, ◌≢◌, ◌↔◌, ℕ, ◌<◌, ◌≤◌, Result, IfErr, IsErrOf, List, Some, length, slice_get, slice_index}
use Rattle.ell_ops.specs.declared.op.Op.{Op}
use Rattle.ell_ops.specs.Meaning.{key_of}
use Rattle.ell_parts.specs.PartedOps.{IsWorkerCount}
use Rattle.ell_parts.specs.declared.fault.PartFault.{PartFault}
use Rattle.ell_parts.specs.declared.fault.PartFault.TheVariants.{BadWorkers, OwnerCount, StrangerOwner, KeySplit, NoMemory}

-- the two positions have one key
abbrev pub SameKey : List Op → ℕ → ℕ → Type 0
SameKey ops i j = (a : Op) × (b : Op) × (slice_get ops i ≡ Some a) × (slice_get ops j ≡ Some b) × (key_of a ≡ key_of b)

-- there is a number of workers that may be, and one owner for each position
pub record IsCounted (ops : List Op) (owners : List ℕ) (workers : ℕ) : Type 0 where
  pub count : IsWorkerCount workers
  pub each : length owners ≡ length ops

-- the owner of each position below i is one of the workers
abbrev pub AreKnown : List ℕ → ℕ → ℕ → Type 0
AreKnown owners workers i = (j : ℕ) → j < i → slice_index owners j < workers

-- the owners of the positions below i keep each key with one worker
abbrev pub AreTogether : List Op → List ℕ → ℕ → Type 0
AreTogether ops owners i = (j k : ℕ) → j < k → k < i → SameKey ops j k → slice_index owners j ≡ slice_index owners k

-- the key of position second has another worker at its first position, and no key has two workers before second
pub record IsFirstSplit (ops : List Op) (owners : List ℕ) (first second : ℕ) : Type 0 where
  pub before : first < second
  pub same : SameKey ops first second
  pub apart : slice_index owners first ≢ slice_index owners second
  pub earliest : (i : ℕ) → i < first → SameKey ops i second → ⊥
  pub least : AreTogether ops owners second

-- the fault is the first split of a key, or want of memory
abbrev pub IsSplit : List Op → List ℕ → PartFault → Type 0
IsSplit ops owners BadWorkers = ⊥
IsSplit ops owners OwnerCount = ⊥
IsSplit ops owners (StrangerOwner at) = ⊥
IsSplit ops owners (KeySplit first second) = IsFirstSplit ops owners first second
IsSplit ops owners NoMemory = Unit {0}

-- the fault is a number of workers that may not be, or want of memory
abbrev pub IsCountFault : ℕ → PartFault → Type 0
IsCountFault workers BadWorkers = IsWorkerCount workers → ⊥
IsCountFault workers OwnerCount = ⊥
IsCountFault workers (StrangerOwner at) = ⊥
IsCountFault workers (KeySplit first second) = ⊥
IsCountFault workers NoMemory = IsWorkerCount workers

-- a parting that goes by the number of workers alone is refused where that may not be, and else for want of memory only
pub record IsRefusedByCount {Z : Type 0} (workers : ℕ) (result : Result Z PartFault) : Type 0 where
  pub bad : IsErrOf result BadWorkers ↔ (¬ IsWorkerCount workers)
  pub fault : IfErr result (IsCountFault workers)

-- what each fault says
abbrev pub IsFault : List Op → List ℕ → ℕ → PartFault → Type 0
IsFault ops owners workers BadWorkers = IsWorkerCount workers → ⊥
IsFault ops owners workers OwnerCount = IsWorkerCount workers × (length owners ≢ length ops)
IsFault ops owners workers (StrangerOwner at) =
    IsCounted ops owners workers × (at < length owners) × (workers ≤ slice_index owners at) × AreKnown owners workers at
IsFault ops owners workers (KeySplit first second) =
    IsCounted ops owners workers × AreKnown owners workers (length owners) × IsFirstSplit ops owners first second
IsFault ops owners workers NoMemory = IsCounted ops owners workers × AreKnown owners workers (length owners)
