use Rattle.std.specs.Prelude.{◌≡◌, ℕ, None}
use Rattle.ell_core.specs.declared.view.Seen.{Seen}
use Rattle.ell_core.specs.state.Machine.{Worker}
use Rattle.ell_core.specs.acts.Searching.{AtCleanLeaf}

-- a worker without a card, at a leaf whose parent's update word it read clean: where the tree is not flat, a card is claimed
-- only there
pub record ClaimsAt (v : Worker) (leaf : ℕ) (parent : Seen) : Type 0 where
  pub at : AtCleanLeaf v leaf parent
  pub no_card : v.card ≡ None
