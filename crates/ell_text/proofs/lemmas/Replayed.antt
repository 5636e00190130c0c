use Rattle.std.proofs.Common.{◌≡◌, ℕ, ◌<◌, List, Option, Ok, length, take, refl, ap, sym, subst, ◌∙◌, rules}
use Rattle.std.specs.Prelude.{IfSome}
use Rattle.std.specs.Io.KnownBytes.{Appends, Keeps}
use Rattle.std.proofs.lemmas.Option.{IfSome_then}
use Rattle.ell_core.specs.declared.event.CoreFault.{CoreFault}
use Rattle.ell_core.specs.declared.event.CoreFault.TheVariants.{NoSuchWorker, NotOwned, NotNow, NoCards, OwnedTwice, NoMemory}
use Rattle.ell_core.specs.declared.event.Event.{Event}
use Rattle.ell_core.specs.declared.event.Shown.{Shown}
use Rattle.ell_core.specs.state.Machine.{Machine}
use Rattle.ell_core.specs.state.Opening.{opening, OpeningRefused}
use Rattle.ell_core.specs.acts.Runs.{Run}
use Rattle.ell_core.specs.tree.Tree.{ListsKeys}
use Rattle.ell_text.specs.declared.output.WriteFault.{WriteFault}
use Rattle.ell_text.specs.replays.Replayed.{setup_of, IsReplay, IsReplayed, IsStartRefused, IsTrace, ScriptFaultTells}
use Rattle.ell_text.specs.replays.Script.{ScriptValue, script}
use Rattle.ell_text.specs.replays.ScriptFault.{of_start, of_write}
use Rattle.ell_text.specs.replays.Trace.{trace}

-- a run from the script's opening state is a replay of the script
pub is_replay : (value : ScriptValue) (before after : Machine) (owned : List (ℕ × ℕ)) (events : List Event) (shown : List Shown) (keys : List ℕ)
    → before ≡ opening (record (setup_of value) { owned = owned }) → owned ≡ value.owned → Run before events shown after → events ≡ value.events
    → ListsKeys after.words keys → IsReplay value shown keys
is_replay value before after owned events shown keys opened same_owned run same_events listed =
    let from = opened ∙ ap (λ owned. opening (record (setup_of value) { owned = owned })) same_owned in
    let run = subst (λ m. Run m events shown after) from run in
    record { after = after; run = subst (λ events. Run (opening (setup_of value)) events shown after) same_events run; listed = listed }

-- the trace of a replay of the script that was read is a trace of the reader's bytes
traced : (input : Option (List ℕ)) (read : List ℕ) (value : ScriptValue) (shown : List Shown) (keys : List ℕ) → IfSome input (λ bytes. read ≡ bytes)
    → script read ≡ Ok value → IsReplay value shown keys → IfSome input (λ bytes. IsTrace bytes (trace shown keys))
traced input read value shown keys whole meant replayed =
    IfSome_then input whole (λ bytes same. record {
      value = value;
      shown = shown;
      keys = keys;
      read = ap script (sym same) ∙ meant;
      replayed = replayed;
      written = refl;
    })

-- the trace is out
pub whole_trace : (input before after : Option (List ℕ)) (read : List ℕ) (value : ScriptValue) (shown : List Shown) (keys : List ℕ)
    → IfSome input (λ bytes. read ≡ bytes) → script read ≡ Ok value → IsReplay value shown keys → Appends before after (trace shown keys)
    → IsReplayed input before after
whole_trace input before after read value shown keys whole meant replayed out =
    IfSome_then input (traced input read value shown keys whole meant replayed) (λ bytes is_trace. (trace shown keys, is_trace, out))

-- the write of the trace was cut short
pub cut_trace : (input before after : Option (List ℕ)) (read : List ℕ) (value : ScriptValue) (shown : List Shown) (keys : List ℕ) (fault : WriteFault)
    → IfSome input (λ bytes. read ≡ bytes) → script read ≡ Ok value → IsReplay value shown keys → fault.written < length (trace shown keys)
    → Appends before after (take fault.written (trace shown keys)) → ScriptFaultTells (of_write fault) input before after
cut_trace input before after read value shown keys fault whole meant replayed missing out =
    IfSome_then input (traced input read value shown keys whole meant replayed) (λ bytes is_trace. (trace shown keys, is_trace, missing, out))

-- the script that was read has its opening refused
refused_start : (input : Option (List ℕ)) (read : List ℕ) (value : ScriptValue) (fault : CoreFault) → IfSome input (λ bytes. read ≡ bytes)
    → script read ≡ Ok value → OpeningRefused value.workers value.owned fault → (fault ≡ NoMemory → ⊥) → IfSome input (λ bytes. IsStartRefused bytes fault)
refused_start input read value fault whole meant refused by_entry =
    IfSome_then input whole (λ bytes same. record { value = value; read = ap script (sym same) ∙ meant; refused = refused; by_entry = by_entry })

-- the opening was refused
pub no_start : (input before after : Option (List ℕ)) (read : List ℕ) (value : ScriptValue) (fault : CoreFault) → IfSome input (λ bytes. read ≡ bytes)
    → script read ≡ Ok value → OpeningRefused value.workers value.owned fault → Keeps before after → ScriptFaultTells (of_start fault) input before after
no_start input before after read value NoSuchWorker whole meant refused kept =
    (kept, refused_start input read value NoSuchWorker whole meant refused (search rules))
no_start input before after read value OwnedTwice whole meant refused kept =
    (kept, refused_start input read value OwnedTwice whole meant refused (search rules))
no_start input before after read value NoMemory whole meant refused kept = kept
no_start input before after read value NotOwned whole meant refused kept = absurd refused
no_start input before after read value NotNow whole meant refused kept = absurd refused
no_start input before after read value NoCards whole meant refused kept = absurd refused
