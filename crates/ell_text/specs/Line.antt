use Rattle.std.specs.Prelude.{ℕ, ◌≡◌, ◌<◌, ◌≤◌, ◌∷◌, ◌++◌, length, ⊤, Bool, true, false, List, Option, None, Some, Result, Ok, Err, if◌then◌else◌, codes}
use Rattle.std.specs.List.{after_first, before_first}
use Rattle.std.specs.Option.{option_map}
use Rattle.std.specs.Str.{bytes_eq}
use Rattle.ell_ops.specs.Meaning.{Fits, greatest_key}
use Rattle.ell_ops.specs.declared.op.Op.{Op}
use Rattle.ell_ops.specs.declared.op.Op.TheVariants as op
use Rattle.ell_text.specs.declared.number.NumberFault.{NumberFault}
use Rattle.ell_text.specs.declared.number.NumberFault.TheVariants.{NotANumber, TooLarge}
use Rattle.ell_text.specs.declared.line.Line.{Line}
use Rattle.ell_text.specs.declared.line.Line.TheVariants as says
use Rattle.ell_text.specs.declared.line.LineFault.{LineFault}
use Rattle.ell_text.specs.declared.line.LineFault.TheVariants.{BadOperation, BadKey, KeyTooLarge, BadValue}
use Rattle.ell_text.specs.declared.line.LineKind.{LineKind}
use Rattle.ell_text.specs.declared.line.LineKind.TheVariants as kind
use Rattle.ell_text.specs.declared.line.OpKind.{OpKind}
use Rattle.ell_text.specs.declared.line.OpKind.TheVariants.{Find, Insert, Delete}
use Rattle.ell_text.specs.declared.line.Section.{Section}
use Rattle.ell_text.specs.declared.line.Section.TheVariants.{Head, Operations}
use Rattle.ell_text.specs.declared.version.Version.{Version}
use Rattle.ell_text.specs.declared.version.Version.TheVariants.{One, Two}
use Rattle.ell_text.specs.Lines.{is_skipped, is_space, lines}
use Rattle.ell_text.specs.Limits.{greatest_value}
use Rattle.ell_text.specs.Number.{IsNumberInFront, key_in, key_spelled}

-- the kind of operation that a name names
abbrev pub kind_of : List ℕ → Option OpKind
kind_of name = if bytes_eq name (codes "find") then Some Find else
    if bytes_eq name (codes "insert") then Some Insert else
    if bytes_eq name (codes "delete") then Some Delete else None

-- the operation of a kind on a key: an insert has the value
abbrev pub operation_on : OpKind → ℕ → ℕ → Op
operation_on Find key value = op.Find key
operation_on Insert key value = op.Insert key value
operation_on Delete key value = op.Delete key

-- the kind of line that a name names in a section: before all operations it may also be a start line
abbrev pub line_kind_of : Section → List ℕ → Option LineKind
line_kind_of Operations name = option_map kind.Operation (kind_of name)
line_kind_of section name =
    if bytes_eq name (codes "start") then Some kind.Start else option_map kind.Operation (kind_of name)

-- whether a line of a kind has a value: an insert and a start line have one in version 2
abbrev pub has_value : Version → LineKind → Bool
has_value One known = false
has_value Two kind.Start = true
has_value Two (kind.Operation Insert) = true
has_value Two (kind.Operation other) = false

-- a key that is misspelt or too large
abbrev pub or_bad_key : Result ℕ NumberFault → Result ℕ LineFault
or_bad_key (Ok key) = Ok key
or_bad_key (Err NotANumber) = Err BadKey
or_bad_key (Err TooLarge) = Err KeyTooLarge

-- a value that is misspelt or too large
abbrev pub or_bad_value : Result ℕ NumberFault → Result ℕ LineFault
or_bad_value (Ok value) = Ok value
or_bad_value (Err fault) = Err BadValue

-- the key that stands behind a line's name: where a value is to follow it, up to the next space, or the line's end
abbrev pub key_behind : Bool → List ℕ → Result ℕ LineFault
key_behind false rest = or_bad_key (key_in rest)
key_behind true rest = or_bad_key (key_in (before_first is_space rest))

-- the value that stands behind that key: where there is to be none, it is 0
abbrev pub value_behind : Bool → List ℕ → Result ℕ LineFault
value_behind false rest = Ok 0
value_behind true rest = or_bad_value (key_spelled (after_first is_space rest))

-- what a line of a kind says of a key and a value
abbrev pub line_on : LineKind → ℕ → ℕ → Line
line_on kind.Start key value = says.Start key value
line_on (kind.Operation known) key value = says.Operation (operation_on known key value)

-- what a kind, a key and a value say together: a bad key counts before a bad value
abbrev pub line_from : LineKind → Result ℕ LineFault → Result ℕ LineFault → Result Line LineFault
line_from known (Err fault) value = Err fault
line_from known (Ok key) (Err fault) = Err fault
line_from known (Ok key) (Ok value) = Ok (line_on known key value)

-- what a line of a kind says, by what stands behind its name: a bad name counts before all else
abbrev pub line_behind_name : Version → Option LineKind → List ℕ → Result Line LineFault
line_behind_name version None rest = Err BadOperation
line_behind_name version (Some known) rest =
    line_from known (key_behind (has_value version known) rest) (value_behind (has_value version known) rest)

-- whether this is the line that says version 2: it stands at the head alone
abbrev pub says_version : Section → List ℕ → Bool
says_version Head line = bytes_eq line (codes "version 2")
says_version section line = false

-- what a line that is not skipped says, or its fault
abbrev pub said_in : Version → Section → List ℕ → Result Line LineFault
said_in version section line = if says_version section line then Ok says.Version else
    line_behind_name version (line_kind_of section (before_first is_space line)) (after_first is_space line)

-- a line is skipped, or else says this
abbrev pub unless_skipped : Bool → Result Line LineFault → Result (Option Line) LineFault
unless_skipped true spoken = Ok None
unless_skipped false (Ok line) = Ok (Some line)
unless_skipped false (Err fault) = Err fault

-- what a line of a section says in a version, nothing where it is skipped, or its fault
abbrev pub line_of : Version → Section → List ℕ → Result (Option Line) LineFault
line_of version section line = unless_skipped (is_skipped line) (said_in version section line)

-- the first line of a text, read so, and the rest, which stands behind it
pub record IsFirstLine (version : Version) (section : Section) (text : List ℕ) (read : Result (Option Line) LineFault)
    (rest : List ℕ) : Type 0 where
  pub line : List ℕ
  pub cut : lines text ≡ line ∷ lines rest
  pub read_so : line_of version section line ≡ read
  pub shorter : length rest < length text

-- the key that a line names is one that a map may have
abbrev pub LineFits : Line → Type 0
LineFits says.Version = ⊤
LineFits (says.Start key value) = key ≤ greatest_key
LineFits (says.Operation operation) = Fits operation

-- the name of a kind of line
abbrev pub name_of : LineKind → List ℕ
name_of kind.Start = codes "start"
name_of (kind.Operation Find) = codes "find"
name_of (kind.Operation Insert) = codes "insert"
name_of (kind.Operation Delete) = codes "delete"

-- the name of a kind stands in front of a text, behind it one space and then the rest, and in the section it names that
-- kind
pub record HasKindInFront (section : Section) (text : List ℕ) (known : LineKind) (rest : List ℕ) : Type 0 where
  pub cut : text ≡ name_of known ++ 32 ∷ rest
  pub named : line_kind_of section (name_of known) ≡ Some known

-- where there is to be a value, one space, it and the rest are the bytes; else it is 0
abbrev pub IsValueInFront : Bool → List ℕ → ℕ → List ℕ → Type 0
IsValueInFront false bytes value rest = (value ≡ 0) × (rest ≡ bytes)
IsValueInFront true bytes value rest =
    (number : List ℕ) × (bytes ≡ 32 ∷ number) × IsNumberInFront greatest_value number value rest
