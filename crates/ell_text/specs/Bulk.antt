use Rattle.std.specs.Prelude.{ℕ, zero, suc, ◌+◌, ◌-◌, ◌<◌, ◌≤◌, ◌≡◌, Bool, true, IsSome, nat_lt, List, [], ◌∷◌, ◌++◌, length, take, slice_get, slice_index_or, All, Option, None, Some, Result, Ok, Err, if◌then◌else◌}
use Rattle.std.specs.List.{filter_map}
use Rattle.std.specs.List.Sorted.{IsStrictlyIncreasing}
use Rattle.std.specs.Map.{keys_of}
use Rattle.std.specs.Option.{option_map, option_or}
use Rattle.ell_ops.specs.Meaning.{Fits, greatest_key}
use Rattle.ell_ops.specs.declared.op.Op.{Op}
use Rattle.ell_text.specs.declared.line.Line.{Line}
use Rattle.ell_text.specs.declared.line.Line.TheVariants as says
use Rattle.ell_text.specs.declared.line.LineFault.{LineFault}
use Rattle.ell_text.specs.declared.line.LineFault.TheVariants as own
use Rattle.ell_text.specs.declared.line.Section.{Section}
use Rattle.ell_text.specs.declared.line.Section.TheVariants.{Head, Opening, Operations}
use Rattle.ell_text.specs.declared.bulk.Bulk.{Bulk}
use Rattle.ell_text.specs.declared.bulk.TextFault.{TextFault}
use Rattle.ell_text.specs.declared.bulk.TextFault.TheVariants.{BadOperation, BadKey, KeyTooLarge, BadValue, StartOrder, TooManyOperations}
use Rattle.ell_text.specs.declared.version.Version.{Version}
use Rattle.ell_text.specs.declared.version.Version.TheVariants.{One, Two}
use Rattle.ell_text.specs.Limits.{most_operations}
use Rattle.ell_text.specs.Line.{line_of, says_version}
use Rattle.ell_text.specs.Lines.{is_skipped, lines}
use Rattle.ell_text.specs.Version.{IsVersion, version_number, version_numbered}

-- What lines say: the version, the keys that are there before the first operation with their values, and the
-- operations.
pub record BulkValue : Type 0 where
  pub version : ℕ
  pub start : List (ℕ × ℕ)
  pub ops : List Op

-- what a bulk is, its lists without their places in memory
abbrev pub bulk_value : {A : Type 0} → Bulk A → BulkValue
bulk_value b = record { version = b.version; start = b.start.items; ops = b.ops.items }

-- the start key with its value, or the operation, that a line says, if it says one of them and has no fault
abbrev pub spoken_in : Result (Option Line) LineFault → Option Line
spoken_in (Ok (Some says.Version)) = None
spoken_in (Ok spoken) = spoken
spoken_in (Err fault) = None

-- the start key with its value that a line says, if it says one
abbrev pub start_in : Result (Option Line) LineFault → Option (ℕ × ℕ)
start_in (Ok (Some (says.Start key value))) = Some (key, value)
start_in other = None

-- the operation that a line says, if it says one
abbrev pub operation_in : Result (Option Line) LineFault → Option Op
operation_in (Ok (Some (says.Operation operation))) = Some operation
operation_in other = None

-- the version of some lines: the second where the first of them that is not skipped says so
abbrev pub version_of : List (List ℕ) → Version
version_of [] = One
version_of (line ∷ more) = if is_skipped line then version_of more else if says_version Head line then Two else One

-- what some lines say in a version: their start keys and their operations, each in order, read as if a start line might
-- stand anywhere: one behind an operation is at fault, whatever it says
abbrev pub said_by : Version → List (List ℕ) → BulkValue
said_by version text = record {
  version = version_number version;
  start = filter_map (λ line. start_in (line_of version Opening line)) text;
  ops = filter_map (λ line. operation_in (line_of version Opening line)) text;
}

-- what some lines say in the version that they have
abbrev pub said : List (List ℕ) → BulkValue
said text = said_by (version_of text) text

-- the section behind what some lines say: while nothing is said it is the head, and the opening ends with the first
-- operation
abbrev pub section_behind : Version → List (ℕ × ℕ) → List Op → Section
section_behind version start (operation ∷ operations) = Operations
section_behind version (pair ∷ pairs) [] = Opening
section_behind Two [] [] = Opening
section_behind One [] [] = Head

-- whether a key is greater than the start key before it, if there is one
abbrev pub rises : Option ℕ → ℕ → Bool
rises None key = true
rises (Some before) key = nat_lt before key

-- the key of the last of some start lines
abbrev pub last_start : List (ℕ × ℕ) → Option ℕ
last_start start = option_map (λ pair. pair.0) (slice_get start (length start - 1))

-- a line's own fault, with the line's number
abbrev pub located : ℕ → LineFault → TextFault
located number own.BadOperation = BadOperation number
located number own.BadKey = BadKey number
located number own.KeyTooLarge = KeyTooLarge number
located number own.BadValue = BadValue number

-- the fault of one line too many: start keys and operations count together
abbrev pub fault_of_more : ℕ → BulkValue → Option TextFault
fault_of_more number before =
    if nat_lt (length before.start + length before.ops) most_operations then None else Some (TooManyOperations number)

-- the fault of what the line of this number says, behind what the lines before it say: the line of the version counts
-- as none
abbrev pub fault_of_said : ℕ → BulkValue → Line → Option TextFault
fault_of_said number before says.Version = None
fault_of_said number before (says.Start key value) =
    if rises (last_start before.start) key then fault_of_more number before else Some (StartOrder number)
fault_of_said number before (says.Operation operation) = fault_of_more number before

-- the fault of the line of this number, which is read as this
abbrev pub fault_of : ℕ → BulkValue → Result (Option Line) LineFault → Option TextFault
fault_of number before (Err fault) = Some (located number fault)
fault_of number before (Ok None) = None
fault_of number before (Ok (Some line)) = fault_of_said number before line

-- the section of the line behind what the lines before it say
abbrev pub next_section : BulkValue → Section
next_section before = section_behind (version_numbered before.version) before.start before.ops

-- a line read in the version and in the section where it stands, behind what the lines before it say
abbrev pub line_behind : BulkValue → List ℕ → Result (Option Line) LineFault
line_behind before line = line_of (version_numbered before.version) (next_section before) line

-- the line at index i, read behind the lines before it
abbrev pub line_at : List (List ℕ) → ℕ → Result (Option Line) LineFault
line_at text i = line_behind (said (take i text)) (slice_index_or text i [])

-- the fault of the line at index i, if it has one
abbrev pub fault_at : List (List ℕ) → ℕ → Option TextFault
fault_at text i = fault_of (i + 1) (said (take i text)) (line_at text i)

-- the first answer of f at a number below n
abbrev pub first : {X : Type 0} → (ℕ → Option X) → ℕ → Option X
first f zero = None
first f (suc n) = option_or (first f n) (f n)

-- some line says a start key or an operation, and neither it nor a line before it has a fault
pub record HasSoundLine (text : List (List ℕ)) : Type 0 where
  pub at : ℕ
  pub within : at < length text
  pub spoken : IsSome (spoken_in (line_at text at))
  pub sound : first (fault_at text) (at + 1) ≡ None

-- the fault, or else what the lines say
abbrev pub unless_fault : Option TextFault → BulkValue → Result BulkValue TextFault
unless_fault None found = Ok found
unless_fault (Some fault) found = Err fault

-- the version, the start keys with their values, and the operations of a text, or its first fault
abbrev pub bulk : List ℕ → Result BulkValue TextFault
bulk bytes = unless_fault (first (fault_at (lines bytes)) (length (lines bytes))) (said (lines bytes))

-- nothing is said before the first line: a text that says nothing has version 1
abbrev pub nothing_said : BulkValue
nothing_said = record { version = 1; start = []; ops = [] }

-- what is said with one line more
abbrev pub with_line : BulkValue → Line → BulkValue
with_line before says.Version = record before { version = 2 }
with_line before (says.Start key value) = record before { start = before.start ++ (key, value) ∷ [] }
with_line before (says.Operation operation) = record before { ops = before.ops ++ operation ∷ [] }

-- what is said with one line more, which may say nothing
abbrev pub with_read : BulkValue → Result (Option Line) LineFault → BulkValue
with_read before (Ok (Some line)) = with_line before line
with_read before (Ok None) = before
with_read before (Err fault) = before

-- a run may begin with this: it has a version, there is not too much of it, the start keys ascend, and all keys may
-- stand in a map
pub record BulkFits (b : BulkValue) : Type 0 where
  pub version : IsVersion b.version
  pub within : length b.start + length b.ops ≤ most_operations
  pub start_keys : All (λ key. key ≤ greatest_key) (keys_of b.start)
  pub ascending : IsStrictlyIncreasing (keys_of b.start)
  pub keys : All Fits b.ops
