use Rattle.std.specs.Prelude.{ℕ, List, ◌++◌, codes}
use Rattle.ell_core.specs.declared.event.CoreFault.{CoreFault}
use Rattle.ell_core.specs.declared.event.CoreFault.TheVariants as fault
use Rattle.ell_core.specs.declared.event.Stepped.TheVariants as stepped
use Rattle.ell_core.specs.declared.event.Shown.{Shown}
use Rattle.ell_core.specs.declared.event.Shown.TheVariants as shown
use Rattle.ell_text.specs.declared.version.Version.TheVariants.{One}
use Rattle.ell_text.specs.Answer.{listing, number_line, reply_line}

-- the name of a refusal
abbrev pub fault_name : CoreFault → List ℕ
fault_name fault.NoSuchWorker = codes "NoSuchWorker"
fault_name fault.NotOwned = codes "NotOwned"
fault_name fault.NotNow = codes "NotNow"
fault_name fault.NoCards = codes "NoCards"
fault_name fault.OwnedTwice = codes "OwnedTwice"
fault_name fault.NoMemory = codes "NoMemory"

-- the line of a refusal
abbrev pub refusal_line : CoreFault → List ℕ
refusal_line fault = codes "refused " ++ fault_name fault ++ codes "\n"

-- the line of what is shown of an event: of a find no value is shown
abbrev pub shown_line : Shown → List ℕ
shown_line (shown.Step stepped.Moved) = codes "moved\n"
shown_line (shown.Step stepped.Won) = codes "won\n"
shown_line (shown.Step stepped.Lost) = codes "lost\n"
shown_line (shown.Step (stepped.Answered reply)) = reply_line One reply
shown_line (shown.Refused fault) = refusal_line fault

-- a line for what is shown of each event, and the lines of the keys
abbrev pub trace : List Shown → List ℕ → List ℕ
trace events keys = listing shown_line number_line events keys
