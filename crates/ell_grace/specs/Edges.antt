use Rattle.std.specs.Prelude.{◌≡◌, ℕ, true, false}
use Rattle.ell_core.specs.state.Machine.{Machine}
use Rattle.ell_core.specs.history.Stages.{insert_won}
use Rattle.ell_core.specs.statements.RunLaws.{IsPassed}
use Rattle.ell_core.specs.statements.Since.{has_ended}
use Rattle.ell_grace.specs.Gone.{IsGone, HasOuts}

-- a state of a run in which the node that an insert's card names, above which it put its own, is gone, although the card has
-- won its flag and has not ended; however far the cards are said to have come
pub record EdgeNodeIsGone : Type 0 where
  pub state : Machine
  pub passed : IsPassed state
  pub card : ℕ
  pub won : (has : HasOuts state) → insert_won (has.stages card) ≡ true
  pub going : (has : HasOuts state) → has_ended (has.stages card) ≡ false
  pub gone : (has : HasOuts state) → IsGone state.words has.stages (state.words.l card)
