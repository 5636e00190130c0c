use Rattle.std.specs.Prelude.{◌≡◌, ℕ, ◌<◌, Some}
use Rattle.ell_core.specs.state.Machine.{Machine}
use Rattle.ell_core.specs.acts.Searching.{at_root}
use Rattle.ell_core.specs.statements.RunLaws.{IsPassed}
use Rattle.ell_grace.specs.Gone.{IsGone, HasOuts}
use Rattle.ell_grace.specs.epochs.Grace.{Grace, GraceStep}
use Rattle.ell_grace.specs.epochs.Sound.{IsStart}

-- a state of a run in which a worker begins at the root when a node is gone, however far the cards are said to have come
pub record BeginsWhenGone : Type 0 where
  pub state : Machine
  pub passed : IsPassed state
  pub worker : ℕ
  pub begins : (state.worker worker).search ≡ at_root
  pub node : ℕ
  pub gone : (has : HasOuts state) → IsGone state.words has.stages node

-- a state to which steps lead from one in which nothing has begun
pub data IsLedTo (announcements : ℕ) : Grace → Type 0 where
  start : {w : Grace} → IsStart w → IsLedTo announcements w
  more : {w w' : Grace} → IsLedTo announcements w → GraceStep announcements w w' → IsLedTo announcements w'

-- such a state in which a pass may take the slot of a free card while one is in an operation
pub record TakesWhenBusy (announcements : ℕ) : Type 0 where
  pub state : Grace
  pub led : IsLedTo announcements state
  pub taker : ℕ
  pub card : ℕ
  pub retire_epoch : ℕ
  pub free : state.free card ≡ Some retire_epoch
  pub safe_epoch : retire_epoch < state.safe_epoch taker
  pub pass : ℕ
  pub word : ℕ
  pub busy : state.word pass ≡ Some word
