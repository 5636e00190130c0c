use Rattle.std.specs.Prelude.{◌≡◌, ℕ, List, Some, []}
use Rattle.ell_tree.specs.Ledgers.{TreeModel, PassModel, IsIdle}

-- a pass of a tree of which these keys may have owners, and every other one is shared, with nothing in hand
pub record IsMember (owned : List ℕ) (t : TreeModel) (p : PassModel) : Type 0 where
  pub own : p.table ≡ t.id
  pub idle : IsIdle p
  pub ownable : p.view.worker.shared ≡ Some owned

-- one of a tree of which no key has an owner, so that it may change each
abbrev pub IsSharer : TreeModel → PassModel → Type 0
IsSharer = IsMember []
