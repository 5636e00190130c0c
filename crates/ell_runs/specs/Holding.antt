-- The card that a pass has in hand.
use Rattle.std.specs.Prelude.{◌≡◌, ℕ, true, false, Some}
use Rattle.ell_runs.specs.declared.view.View.{View}

-- a pass has a card in hand that has not won its flag
abbrev pub HoldsWaiting : View → ℕ → Type 0
HoldsWaiting v c = (v.worker.card ≡ Some c) × (v.worker.flagged ≡ false)

-- a card is in the hand of a pass, flagged
pub record HasFlagged (v : View) (c : ℕ) : Type 0 where
  pub holds : v.worker.card ≡ Some c
  pub flagged : v.worker.flagged ≡ true
