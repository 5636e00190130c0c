use Rattle.std.specs.Prelude.{◌≡◌, ℕ, None, length}
pub use Rattle.ell_core.specs.declared.view.Entry.{Entry}
pub use Rattle.ell_core.specs.declared.view.Entry.TheVariants.{Present, Absent}
use Rattle.ell_core.specs.statements.Effects.{contents_in}
pub use Rattle.ell_cards.specs.Models.{PassModel, ledger, Owns}
use Rattle.ell_cards.specs.Models.{TableModel}
use Rattle.ell_ops.specs.Contents.{Contents}

-- how a contract sees a tree: which table it stands on, and its plan: the keys that have owners, those that it starts
-- with, the last card, and whether all other keys are shared
abbrev pub TreeModel : Type 0
TreeModel = TableModel

-- the keys of its own that are present, with their values
abbrev pub present_in : PassModel → Contents
present_in p = contents_in (ledger p)

-- how many operations it has answered
abbrev pub answers : PassModel → ℕ
answers p = length p.sight.mine

-- how often something was in its way
abbrev pub hindrances : PassModel → ℕ
hindrances p = length p.view.hindrances

-- it has nothing in hand
abbrev pub IsIdle : PassModel → Type 0
IsIdle p = p.view.worker.operation ≡ None

-- it is a pass of this tree, with nothing in hand
abbrev pub IsIdlePassOf : TreeModel → PassModel → Type 0
IsIdlePassOf t p = (p.table ≡ t.id) × IsIdle p
