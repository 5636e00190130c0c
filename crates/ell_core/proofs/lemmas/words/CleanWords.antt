use Rattle.std.proofs.Common.{◌≡◌, ℕ, zero, suc, ◌%◌, ◌<◌, arith}
use Rattle.ell_word.specs.Word.{state_of}
use Rattle.ell_word.specs.declared.update.State.TheVariants as state
use Rattle.ell_core.specs.acts.Searching.{IsClean}

-- the number of a clean state
clean_number : (n : ℕ) → n < 4 → state_of n ≡ state.Clean → n ≡ 3
clean_number zero less e = absurd (cc)
clean_number (suc zero) less e = absurd (cc)
clean_number (suc (suc zero)) less e = absurd (cc)
clean_number (suc (suc (suc n))) less e = omega arith

-- the remainder of a clean word
pub clean_remainder : (word : ℕ) → IsClean word → word % 4 ≡ 3
clean_remainder word calm = clean_number (word % 4) (omega arith) calm
