use Rattle.std.specs.Prelude.{ℕ, zero, suc, ◌+◌, ◌*◌, ◌/◌, ◌%◌}
use Rattle.ell_word.specs.declared.update.State.{State}
use Rattle.ell_word.specs.declared.update.State.TheVariants.{IFlag, DFlag, Mark, Clean}
use Rattle.ell_word.specs.declared.update.Update.{Update}

abbrev pub state_number : State → ℕ
state_number IFlag = 0
state_number DFlag = 1
state_number Mark = 2
state_number Clean = 3

abbrev pub state_of : ℕ → State
state_of zero = IFlag
state_of (suc zero) = DFlag
state_of (suc (suc zero)) = Mark
state_of (suc (suc (suc n))) = Clean

-- the word of an update
abbrev pub packed : Update → ℕ
packed update = 4 * update.card + state_number update.state

-- the update that a word says
abbrev pub unpacked : ℕ → Update
unpacked word = record { state = state_of (word % 4); card = word / 4 }
