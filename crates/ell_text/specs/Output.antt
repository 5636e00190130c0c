use Rattle.std.specs.Prelude.{ℕ, ◌<◌, List, ◌++◌, length, take, Option, Result, IfErr, OnOk}
use Rattle.std.specs.Io.KnownBytes.{Appends}
use Rattle.ell_text.specs.declared.output.Output.{Output}
use Rattle.ell_text.specs.declared.output.WriteFault.{WriteFault}
use Rattle.ell_text.specs.Sending.{Sends, Stops}

-- the bytes that wait to be written
abbrev pub waiting_bytes : Output → List ℕ
waiting_bytes output = take output.filled output.bytes

-- The text came behind what waited. The front of all that went to the writer, and the rest waits.
pub record Puts (before after : Option (List ℕ)) (old new : Output) (text : List ℕ) : Type 0 where
  pub sends : Sends before after (waiting_bytes old ++ text) (waiting_bytes new) old.written new.written

-- The front of what waited and of the text went to the writer, and it did not take the rest.
pub record Faults (before after : Option (List ℕ)) (old : Output) (text : List ℕ) (fault : WriteFault) : Type 0 where
  pub stops : Stops before after (waiting_bytes old ++ text) old.written fault.written

-- The text was put behind what waited, unless the writer did not take all that was to go out.
pub record HasPut {X : Type 0} (before after : Option (List ℕ)) (old new : Output) (text : List ℕ)
    (result : Result X WriteFault) : Type 0 where
  pub ok : OnOk result (Puts before after old new text)
  pub fault : IfErr result (Faults before after old text)

-- A text was written: the whole of it is out, behind what was there. After a fault exactly its first `written` bytes
-- are, and some of it is missing.
pub record IsWritten {X : Type 0} (before after : Option (List ℕ)) (text : List ℕ)
    (result : Result X WriteFault) : Type 0 where
  pub ok : OnOk result (Appends before after text)
  pub fault : IfErr result (λ fault. Appends before after (take fault.written text))
  pub missing : IfErr result (λ fault. fault.written < length text)
