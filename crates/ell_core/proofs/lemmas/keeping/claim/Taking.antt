use Rattle.std.proofs.Common.{◌≡◌, ℕ, ◌<◌, false, Some, inl, inr}
use Rattle.ell_core.specs.declared.view.WorkerOf.{WorkerOf}
use Rattle.ell_core.specs.acts.Searching.{MayTake}
use Rattle.ell_core.proofs.lemmas.outcomes.Decide.{some_not_none}

-- who may take a card and has one in hand discards that: the tree is flat, and the card is not flagged
pub hand_discarded : {L S K : Type 0} (from : ℕ) (v : WorkerOf L S K) (c : ℕ) → MayTake from v → v.card ≡ Some c
    → (0 < from) × (v.flagged ≡ false)
hand_discarded from v c (inl none) holds = absurd (some_not_none holds none)
hand_discarded from v c (inr aside) holds = aside
