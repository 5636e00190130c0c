use Rattle.std.specs.Prelude.{◌≡◌, ◌⊎◌, ℕ, true, false, List}
use Rattle.std.specs.List.{All}
use Rattle.std.specs.Map.{keys_of}
use Rattle.ell_ops.specs.Contents.{ListsPairs, contents_of}
use Rattle.ell_ops.specs.KeySet.{set_of}
use Rattle.ell_layout.specs.Words.{words_of}
use Rattle.ell_core.specs.tree.Tree.{ListsTreePairs}
use Rattle.ell_cards.specs.Models.{PassModel}
use Rattle.std.specs.List.Sorted.{IsStrictlyIncreasing}
use Rattle.ell_runs.specs.Starts.{IsSharedIn}
use Rattle.ell_cards.specs.Closed.{ClosedModel, TableRan}
use Rattle.ell_tree.specs.Ledgers.{TreeModel, present_in}

-- the keys of a tree with their values, ascending, as a pass closes it that owns all keys of the plan: they are the
-- pairs of the tree that the words of the table make at that point, to which turns of the passes have led from the
-- table's start; each is of the plan or shared, and of the plan's those are there that are present in the pass's
-- ledger; so all are those, where no key is shared
pub record ClosesTo (t : TreeModel) (p : PassModel) (pairs : List (ℕ × ℕ)) : Type 0 where
  pub ascending : IsStrictlyIncreasing (keys_of pairs)
  pub present : (k : ℕ) → set_of t.plan.keys k ≡ true → contents_of pairs k ≡ present_in p k
  pub among : All (λ k. (set_of t.plan.keys k ≡ true) ⊎ IsSharedIn t.plan k) (keys_of pairs)
  pub all : t.plan.shared ≡ false → ListsPairs (present_in p) pairs
  pub closed : ClosedModel
  pub cards : closed.last_card ≡ t.plan.last_card
  pub ran : TableRan t.plan p.view closed
  pub tree : ListsTreePairs (words_of closed.words) pairs
