use Rattle.std.specs.Prelude.{ℕ, ◌==◌, if◌then◌else◌}
use Rattle.ell_layout.specs.Words.{Words}
use Rattle.ell_trie.specs.Ranks.{rank_of}
use Rattle.ell_core.specs.tree.Flat.{opening_from}

-- The rank of a node, which rises along every path of the tree, by the number from which the tree is flat and the keys of the
-- nodes: in a flat tree the rank in a trie, in any other tree the node's number.
unfoldable pub rank_in : ℕ → (ℕ → ℕ) → ℕ → ℕ
rank_in from key x = if from == 0 then x else rank_of (opening_from from) key x

-- the rank of a node in the tree of these words
abbrev pub rank : Words → ℕ → ℕ
rank w = rank_in w.flat_from w.key
