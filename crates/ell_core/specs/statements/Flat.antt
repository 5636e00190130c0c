use Rattle.std.specs.Prelude.{ℕ, ◌+◌, ◌<◌, ◌≤◌, Bool, List, length}
use Rattle.ell_word.specs.Node.{IsInternal}
use Rattle.ell_layout.specs.Branches.{greatest_depth}
use Rattle.ell_core.specs.state.Machine.{Machine}
use Rattle.ell_core.specs.tree.Tree.{Leads}
use Rattle.ell_core.specs.statements.RunLaws.{IsPassed}

-- in every state of a run of a flat tree an internal node is at most 64 steps deeper than its opening tree: whichever keys
-- came, in whichever order
abbrev pub FlatTreesAreShallow : Type 0
FlatTreesAreShallow = (m : Machine) (path : List Bool) (x : ℕ) → IsPassed m → 0 < m.words.flat_from → IsInternal x
    → Leads m.words 0 path x → length path ≤ greatest_depth m.words.flat_from + 64
