use Rattle.ell_core.specs.declared.event.CoreFault.{CoreFault}
use Rattle.ell_core.specs.declared.event.CoreFault.TheVariants as core
use Rattle.ell_text.specs.declared.input.InputFault.{InputFault}
use Rattle.ell_text.specs.declared.input.InputFault.TheVariants as input
use Rattle.ell_text.specs.declared.output.WriteFault.{WriteFault}
use Rattle.ell_text.specs.declared.replay.ReplayFault.{ReplayFault}
use Rattle.ell_text.specs.declared.replay.ReplayFault.TheVariants as text
use Rattle.ell_text.specs.declared.bytes.ScriptFault.{ScriptFault}
use Rattle.ell_text.specs.declared.bytes.ScriptFault.TheVariants.{Read, TooLong, Text, Start, NoMemory, Write}

abbrev pub of_input : InputFault → ScriptFault
of_input input.Read = Read
of_input input.TooLong = TooLong
of_input input.NoMemory = NoMemory

-- want of memory is no fault of the text
abbrev pub of_text : ReplayFault → ScriptFault
of_text text.NoMemory = NoMemory
of_text fault = Text fault

-- want of memory is no fault of the opening
abbrev pub of_start : CoreFault → ScriptFault
of_start core.NoMemory = NoMemory
of_start fault = Start fault

abbrev pub of_write : WriteFault → ScriptFault
of_write fault = Write fault.written
