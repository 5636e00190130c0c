use Rattle.std.specs.Prelude.{ℕ, ◌+◌, ◌≤◌, List, length}
use Rattle.ell_word.specs.Node.{card}
use Rattle.ell_layout.specs.Words.{Words}
use Rattle.ell_core.specs.tree.Tree.{Reached, ListsKeys}

-- so many places are enough for the nodes that wait on a walk: no reached node's card is greater than their number less
-- two
abbrev pub HasRoom : Words → ℕ → Type 0
HasRoom w places = (x : ℕ) → Reached w x → card x + 2 ≤ places

-- so many places are enough for the keys of the tree
abbrev pub HoldsKeys : Words → ℕ → Type 0
HoldsKeys w places = (keys : List ℕ) → ListsKeys w keys → length keys ≤ places
