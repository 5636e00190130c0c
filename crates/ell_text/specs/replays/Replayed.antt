use Rattle.std.specs.Prelude.{false, ◌≡◌, ◌≢◌, ℕ, ◌<◌, List, [], length, take, Option, IfSome, Ok, Err, ⊤}
use Rattle.std.specs.Io.KnownBytes.{Appends, Keeps}
use Rattle.ell_core.specs.declared.event.CoreFault.{CoreFault}
use Rattle.ell_core.specs.declared.event.CoreFault.TheVariants as core
use Rattle.ell_core.specs.declared.event.Shown.{Shown}
use Rattle.ell_core.specs.state.Machine.{Machine}
use Rattle.ell_core.specs.state.Opening.{Setup, opening, OpeningRefused}
use Rattle.ell_core.specs.acts.Runs.{Run}
use Rattle.ell_core.specs.tree.Tree.{ListsKeys}
use Rattle.ell_text.specs.declared.bytes.ScriptFault.{ScriptFault}
use Rattle.ell_text.specs.declared.bytes.ScriptFault.TheVariants.{Read, TooLong, Text, Start, NoMemory, Write}
use Rattle.ell_text.specs.Limits.{most_bytes}
use Rattle.ell_text.specs.replays.Script.{ScriptValue, script}
use Rattle.ell_text.specs.replays.Trace.{trace}

-- what a script opens with: it has no start keys, and a tree that is not flat
abbrev pub setup_of : ScriptValue → Setup
setup_of value =
    record { count = value.workers; owned = value.owned; start = []; cards = value.cards; shared = λ _. false; flat = false }

-- a run of the script's events from its opening state shows this list and ends in a state whose tree has these keys
pub record IsReplay (value : ScriptValue) (shown : List Shown) (keys : List ℕ) : Type 0 where
  pub after : Machine
  pub run : Run (opening (setup_of value)) value.events shown after
  pub listed : ListsKeys after.words keys

-- the text is the trace of a replay of the script that the bytes say
pub record IsTrace (bytes text : List ℕ) : Type 0 where
  pub value : ScriptValue
  pub shown : List Shown
  pub keys : List ℕ
  pub read : script bytes ≡ Ok value
  pub replayed : IsReplay value shown keys
  pub written : text ≡ trace shown keys

-- a trace of the bytes that were read went out, and nothing else
abbrev pub IsReplayed : Option (List ℕ) → Option (List ℕ) → Option (List ℕ) → Type 0
IsReplayed input before after = IfSome input (λ bytes. (text : List ℕ) × IsTrace bytes text × Appends before after text)

-- an entry of the script that the bytes say refuses its opening so
pub record IsStartRefused (bytes : List ℕ) (fault : CoreFault) : Type 0 where
  pub value : ScriptValue
  pub read : script bytes ≡ Ok value
  pub refused : OpeningRefused value.workers value.owned fault
  pub by_entry : fault ≢ core.NoMemory

-- the replay ended before it wrote anything
abbrev pub IsBeforeWriting : ScriptFault → Type 0
IsBeforeWriting (Write written) = ⊥
IsBeforeWriting _ = ⊤

-- what a fault tells of the bytes that were read, and of what was written
abbrev pub ScriptFaultTells : ScriptFault → Option (List ℕ) → Option (List ℕ) → Option (List ℕ) → Type 0
ScriptFaultTells Read input before after = Keeps before after
ScriptFaultTells TooLong input before after = Keeps before after × IfSome input (λ bytes. most_bytes < length bytes)
ScriptFaultTells (Text fault) input before after = Keeps before after × IfSome input (λ bytes. script bytes ≡ Err fault)
ScriptFaultTells (Start fault) input before after =
    Keeps before after × IfSome input (λ bytes. IsStartRefused bytes fault)
ScriptFaultTells NoMemory input before after = Keeps before after
ScriptFaultTells (Write written) input before after = IfSome input (λ bytes.
    (text : List ℕ) × IsTrace bytes text × (written < length text) × Appends before after (take written text))
