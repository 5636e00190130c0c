use Rattle.std.specs.Prelude.{◌≡◌, ℕ, ◌<◌, ◌≤◌, List, length, take, Option, IfSome, Ok, Err, ⊤}
use Rattle.std.specs.Io.KnownBytes.{Appends, Keeps}
use Rattle.ell_ops.specs.declared.op.Op.{Op}
use Rattle.ell_ops.specs.Contents.{Contents, ListsPairs, contents_of}
use Rattle.ell_ops.specs.Meaning.{replies, final}
use Rattle.ell_text.specs.Limits.{most_bytes}
use Rattle.ell_text.specs.Bulk.{BulkValue, bulk}
use Rattle.ell_text.specs.Answer.{answer}
use Rattle.ell_parts.specs.PartedOps.{PartedOps}
use Rattle.ell_run.specs.Late.{IsLate}
use Rattle.ell_run.specs.Settings.{IsPartedAs}
use Rattle.ell_run.specs.declared.settings.Settings.{Settings}
use Rattle.ell_run.specs.declared.bytes.RunFault.{RunFault}
use Rattle.ell_run.specs.declared.bytes.RunFault.TheVariants.{Read, TooLong, Text, NoMemory, Write}

-- the text is the answer, in the bulk text's version, of one thread that applies its operations to the map of its start
-- keys
pub record IsAnswer (bytes text : List ℕ) : Type 0 where
  pub given : BulkValue
  pub pairs : List (ℕ × ℕ)
  pub read : bulk bytes ≡ Ok given
  pub listed : ListsPairs (final (contents_of given.start) given.ops) pairs
  pub written : text ≡ answer given.version (replies (contents_of given.start) given.ops) pairs

-- the answer to the bytes that were read went out, and nothing else
abbrev pub IsAnswered : Option (List ℕ) → Option (List ℕ) → Option (List ℕ) → Type 0
IsAnswered input before after =
    IfSome input (λ bytes. (text : List ℕ) × IsAnswer bytes text × Appends before after text)

-- so many operations of a list are late, from a map, where it is parted as the settings ask, each part in the order in
-- which it is run
pub record IsLateOf (settings : Settings) (start : Contents) (ops : List Op) (count : ℕ) : Type 0 where
  pub parting : PartedOps
  pub parted : IsPartedAs settings ops parting
  pub few : count ≤ length ops
  pub late : IsLate start parting count

-- so many operations of the bytes that were read are late
abbrev pub IsReported : Settings → Option (List ℕ) → ℕ → Type 0
IsReported settings input count =
    IfSome input (λ bytes. (given : BulkValue) × (bulk bytes ≡ Ok given)
    × IsLateOf settings (contents_of given.start) given.ops count)

-- the run ended before it wrote anything
abbrev pub IsBeforeWriting : RunFault → Type 0
IsBeforeWriting (Write written) = ⊥
IsBeforeWriting _ = ⊤

-- what a fault tells of the bytes that were read, and of what was written
abbrev pub FaultTells : RunFault → Option (List ℕ) → Option (List ℕ) → Option (List ℕ) → Type 0
FaultTells Read input before after = Keeps before after
FaultTells TooLong input before after = Keeps before after × IfSome input (λ bytes. most_bytes < length bytes)
FaultTells (Text fault) input before after = Keeps before after × IfSome input (λ bytes. bulk bytes ≡ Err fault)
FaultTells NoMemory input before after = Keeps before after
FaultTells (Write written) input before after = IfSome input (λ bytes.
    (text : List ℕ) × IsAnswer bytes text × (written < length text) × Appends before after (take written text))
