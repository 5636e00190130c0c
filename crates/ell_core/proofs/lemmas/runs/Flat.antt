use Rattle.std.proofs.Common.{ℕ, Bool, List, [], ◌∷◌}
use Rattle.ell_layout.specs.Words.{Words}
use Rattle.ell_trie.specs.Tries.{InnerPath}
use Rattle.ell_trie.proofs.lemmas.Paths.{inner_path_short}
use Rattle.ell_core.specs.tree.Tree.{Leads}
use Rattle.ell_core.specs.statements.Flat.{FlatTreesAreShallow}
use Rattle.ell_core.proofs.lemmas.runs.Lawful.{passed_has}

-- a path of the words is one of their children
inner_path : (w : Words) (path : List Bool) (x y : ℕ) → Leads w x path y → InnerPath w.child x path y
inner_path w [] x y leads = leads
inner_path w (right ∷ path) x y leads = (leads.0, inner_path w path (w.child x right) y leads.1)

pub flat_trees_are_shallow : FlatTreesAreShallow
flat_trees_are_shallow m path x passed flat inner leads =
    let has = passed_has m passed in
    inner_path_short (has.invariant.words.tree.trie flat) path x inner (inner_path m.words path 0 x leads)
