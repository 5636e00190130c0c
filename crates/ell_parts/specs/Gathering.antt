use Rattle.std.specs.Prelude.{◌≡◌, ℕ, ◌<◌, ◌≤◌, Bool, true, false, List, Some, length, slice_get, Contains}
use Rattle.ell_ops.specs.declared.reply.Reply.{Reply}
use Rattle.ell_parts.specs.declared.gathering.GatherFault.{GatherFault}
use Rattle.ell_parts.specs.declared.gathering.GatherFault.TheVariants.{Stranger, Doubled, Missing, NoMemory}

-- item j of the list is for this position
abbrev pub IsFor : List (ℕ × Reply) → ℕ → ℕ → Type 0
IsFor items j position = (reply : Reply) × (slice_get items j ≡ Some (position, reply))

-- no item below index j is for the position
abbrev pub NoneFor : List (ℕ × Reply) → ℕ → ℕ → Type 0
NoneFor items j position = (k : ℕ) → k < j → IsFor items k position → ⊥

-- each item below index j is for a position below n that no item before it is for
abbrev pub AreSound : ℕ → List (ℕ × Reply) → ℕ → Type 0
AreSound n items j = (k position : ℕ) → k < j → IsFor items k position → (position < n) × NoneFor items k position

-- the replies are n, each that of the one item for its position, and there is no other item
pub record IsGathered (n : ℕ) (items : List (ℕ × Reply)) (replies : List Reply) : Type 0 where
  pub count : length replies ≡ n
  pub sound : AreSound n items (length items)
  pub each : (position : ℕ) (reply : Reply) → slice_get replies position ≡ Some reply → Contains items (position, reply)

-- what each fault says: the first item that is not sound decides, and then the least position that has no item
abbrev pub IsFault : ℕ → List (ℕ × Reply) → GatherFault → Type 0
IsFault n items (Stranger at) = (j : ℕ) × IsFor items j at × AreSound n items j × (n ≤ at)
IsFault n items (Doubled at) =
    (j : ℕ) × (k : ℕ) × IsFor items j at × AreSound n items j × (at < n) × (k < j) × IsFor items k at
IsFault n items (Missing at) =
    AreSound n items (length items) × (at < n) × NoneFor items (length items) at
    × ((position : ℕ) → position < at → (j : ℕ) × IsFor items j position)
IsFault n items NoMemory = Unit {0}

-- the state behind some items: which positions they answered, and with what replies
pub record IsPlaced (items : List (ℕ × Reply)) (answered : List Bool) (replies : List Reply) : Type 0 where
  pub sound : AreSound (length answered) items (length items)
  pub told : (position : ℕ) → slice_get answered position ≡ Some true →
      (reply : Reply) × (slice_get replies position ≡ Some reply) × Contains items (position, reply)
  pub untold : (position : ℕ) → slice_get answered position ≡ Some false → NoneFor items (length items) position
