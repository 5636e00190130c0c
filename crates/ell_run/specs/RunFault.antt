use Rattle.ell_text.specs.declared.input.InputFault.{InputFault}
use Rattle.ell_text.specs.declared.input.InputFault.TheVariants as input
use Rattle.ell_text.specs.declared.bulk.TextFault.{TextFault}
use Rattle.ell_text.specs.declared.bulk.TextFault.TheVariants as text
use Rattle.ell_text.specs.declared.output.WriteFault.{WriteFault}
use Rattle.ell_run.specs.declared.bytes.RunFault.{RunFault}
use Rattle.ell_run.specs.declared.bytes.RunFault.TheVariants.{Read, TooLong, Text, NoMemory, Write}

abbrev pub of_input : InputFault → RunFault
of_input input.Read = Read
of_input input.TooLong = TooLong
of_input input.NoMemory = NoMemory

-- want of memory is no fault of the text
abbrev pub of_text : TextFault → RunFault
of_text text.NoMemory = NoMemory
of_text fault = Text fault

abbrev pub of_write : WriteFault → RunFault
of_write fault = Write fault.written
