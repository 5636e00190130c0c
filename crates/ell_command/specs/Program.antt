use Rattle.std.specs.Prelude.{◌≡◌, ◌⊎◌, ℕ, List, Option, Result, Ok, Err, ⊤}
use Rattle.std.specs.Io.KnownBytes.{Keeps}
use Rattle.ell_run.specs.Answered.{FaultTells, IsAnswered, IsBeforeWriting}
use Rattle.clap.specs.Walk.{Text}
use Rattle.ell_command.specs.CommandLine.{AreRefused, AreShownHelp, AreTaken, AreTakenToReplay, AreTakenToRun}
use Rattle.ell_command.specs.CommandLine.{AsksForHelp, AsksForVersion, AsksToReplay, AsksToRun}
use Rattle.ell_command.specs.declared.program.Failure.{Failure}
use Rattle.ell_command.specs.declared.program.Failure.TheVariants as failure
use Rattle.ell_run.specs.declared.bytes.RunFault.{RunFault}
use Rattle.ell_run.specs.declared.bytes.RunFault.TheVariants as run_fault
use Rattle.ell_text.specs.replays.Replayed.{IsBeforeWriting as IsBeforeTrace}
use Rattle.ell_text.specs.replays.Replayed.{IsReplayed, ScriptFaultTells}
use Rattle.ell_text.specs.declared.bytes.ScriptFault.{ScriptFault}
use Rattle.ell_text.specs.declared.bytes.ScriptFault.TheVariants as script_fault

-- the program succeeded, or showed its help or its version
abbrev pub Succeeded : ℕ → Type 0
Succeeded status = status ≡ 0

-- the text, the input's length or the arguments are refused
abbrev pub IsRefusal : ℕ → Type 0
IsRefusal status = status ≡ 2

-- memory ran out
abbrev pub IsWantOfMemory : ℕ → Type 0
IsWantOfMemory status = status ≡ 3

-- reading or writing failed
abbrev pub IsTransferFailure : ℕ → Type 0
IsTransferFailure status = status ≡ 4

-- one of the four exit statuses
abbrev pub IsStatus : ℕ → Type 0
IsStatus status = Succeeded status ⊎ (IsRefusal status ⊎ (IsWantOfMemory status ⊎ IsTransferFailure status))

-- a status after which nothing was written
abbrev pub IsSilent : ℕ → Type 0
IsSilent status = IsRefusal status ⊎ IsWantOfMemory status

-- the exit status that tells why a run ended early
abbrev pub status_of_fault : RunFault → ℕ
status_of_fault run_fault.Read = 4
status_of_fault run_fault.TooLong = 2
status_of_fault (run_fault.Text text) = 2
status_of_fault run_fault.NoMemory = 3
status_of_fault (run_fault.Write written) = 4

-- the exit status that tells why a replay ended early
abbrev pub status_of_script_fault : ScriptFault → ℕ
status_of_script_fault script_fault.Read = 4
status_of_script_fault script_fault.TooLong = 2
status_of_script_fault (script_fault.Text text) = 2
status_of_script_fault (script_fault.Start start) = 2
status_of_script_fault script_fault.NoMemory = 3
status_of_script_fault (script_fault.Write written) = 4

-- the exit status that tells of a failure
abbrev pub status_of : Failure → ℕ
status_of (failure.Refused error) = 2
status_of failure.NoMemory = 3
status_of (failure.Run fault) = status_of_fault fault
status_of (failure.Replay fault) = status_of_script_fault fault
status_of failure.Write = 4

-- the exit status that an outcome has: success, or what tells of its failure
abbrev pub status_after : {X : Type 0} → Result X Failure → ℕ
status_after (Ok done) = 0
status_after (Err failed) = status_of failed

-- words that are taken name `run` or `replay`; where help or the version is shown, nothing is refused; words that are
-- refused end silently
pub record GoesByWords (words : List Text) (status : ℕ) : Type 0 where
  pub named : AreTaken words → AreTakenToRun words ⊎ AreTakenToReplay words
  pub help : AsksForHelp words → ¬ IsRefusal status
  pub version : AsksForVersion words → ¬ IsRefusal status
  pub shown : AreShownHelp words → ¬ IsRefusal status
  pub refused : AreRefused words → IsSilent status

-- success means that the run ended well, where the words are taken to run, as the one word `run` is
pub record AnswersRun (words : List Text) (status : ℕ) (input before after : Option (List ℕ)) : Type 0 where
  pub taken : AreTakenToRun words → Succeeded status → IsAnswered input before after
  pub run : AsksToRun words → Succeeded status → IsAnswered input before after

-- success means that the replay ended well, where the words are taken to replay, as the one word `replay` is
pub record AnswersReplay (words : List Text) (status : ℕ) (input before after : Option (List ℕ)) : Type 0 where
  pub taken : AreTakenToReplay words → Succeeded status → IsReplayed input before after
  pub replay : AsksToReplay words → Succeeded status → IsReplayed input before after

-- the failure came before anything was written
abbrev pub IsBeforeOutput : Failure → Type 0
IsBeforeOutput (failure.Run fault) = IsBeforeWriting fault
IsBeforeOutput (failure.Replay fault) = IsBeforeTrace fault
IsBeforeOutput failure.Write = ⊥
IsBeforeOutput _ = ⊤

-- what a failure tells where the words are taken to run: of the bytes that were read, and of what was written; by
-- `Write` a flush failed
abbrev pub RunFailureTells : Failure → Option (List ℕ) → Option (List ℕ) → Option (List ℕ) → Type 0
RunFailureTells failure.NoMemory input before after = Keeps before after
RunFailureTells (failure.Run fault) input before after = FaultTells fault input before after
RunFailureTells failure.Write input before after = IsAnswered input before after
RunFailureTells _ input before after = ⊥

-- the same where they are taken to replay
abbrev pub ReplayFailureTells : Failure → Option (List ℕ) → Option (List ℕ) → Option (List ℕ) → Type 0
ReplayFailureTells failure.NoMemory input before after = Keeps before after
ReplayFailureTells (failure.Replay fault) input before after = ScriptFaultTells fault input before after
ReplayFailureTells failure.Write input before after = IsReplayed input before after
ReplayFailureTells _ input before after = ⊥

-- the status is that of a failure which tells of the run
abbrev pub RunEndsBy : ℕ → Option (List ℕ) → Option (List ℕ) → Option (List ℕ) → Type 0
RunEndsBy status input before after =
    (failed : Failure) × (status ≡ status_of failed) × RunFailureTells failed input before after

-- the status is that of a failure which tells of the replay
abbrev pub ReplayEndsBy : ℕ → Option (List ℕ) → Option (List ℕ) → Option (List ℕ) → Type 0
ReplayEndsBy status input before after =
    (failed : Failure) × (status ≡ status_of failed) × ReplayFailureTells failed input before after
