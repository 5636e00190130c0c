use Rattle.std.specs.Prelude.{◌≡◌, ◌≢◌, ℕ, ◌↔◌, Some, None, false}
use Rattle.ell_ops.specs.Contents.{contents_of}
use Rattle.ell_core.specs.state.Opening.{Setup, opening, start_entry}
use Rattle.ell_core.specs.tree.Tree.{IsTreePair}
use Rattle.ell_core.specs.soundness.Sound.{IsOwned}
use Rattle.ell_core.specs.statements.RunLaws.{CanOpen}

-- an opening has its start keys: they are the keys of its tree, with their values, each that is not shared has an
-- owner, and of the keys that a worker owns just they are present
pub record HasStartKeys (setup : Setup) : Type 0 where
  pub tree : (k value : ℕ) → IsTreePair (opening setup).words k value ↔ (contents_of setup.start k ≡ Some value)
  pub owned : (k value : ℕ) → contents_of setup.start k ≡ Some value → setup.shared k ≡ false
      → IsOwned (opening setup) k
  pub ledgers : (i k : ℕ) → ((opening setup).worker i).ledger k ≢ None
      → ((opening setup).worker i).ledger k ≡ Some (start_entry setup.start k)

abbrev pub OpeningsHaveTheirStartKeys : Type 0
OpeningsHaveTheirStartKeys = (setup : Setup) → CanOpen setup → HasStartKeys setup
