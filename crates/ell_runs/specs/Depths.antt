use Rattle.std.specs.Prelude.{ℕ, ◌+◌, ◌/◌, ◌%◌, ◌≤◌, ◌==◌, if◌then◌else◌, max, Option, Some, None, List, [], ◌∷◌, length}
use Rattle.ell_word.specs.Node.{IsInternal, card}
use Rattle.ell_layout.specs.Branches.{greatest_depth}
use Rattle.ell_layout.specs.Words.{Words}
use Rattle.ell_runs.specs.Plans.{TablePlan}
use Rattle.ell_core.specs.tree.Rank.{rank}
use Rattle.ell_layout.specs.declared.field.Field.TheVariants.{Gp}
use Rattle.ell_runs.specs.declared.view.Told.{Told}
use Rattle.ell_runs.specs.declared.view.Told.TheVariants.{Met, Depth, Info}
use Rattle.ell_runs.specs.declared.view.View.{View}

-- how deep a node is, as a pass was told: the most internal nodes by which a way led it there, and 0 for the root
abbrev pub depth_told : List Told → ℕ → ℕ
depth_told [] x = 0
depth_told (Depth y d ∷ told) x = if y == x then max d (depth_told told x) else depth_told told x
depth_told (_ ∷ told) x = depth_told told x

-- a node of this depth is met
abbrev pub met_at : ℕ → ℕ → List Told → List Told
met_at depth x told = Met x ∷ Depth x depth ∷ told

-- the grandparent that an entry tells of a card
abbrev pub tells_grandparent_of : ℕ → Told → Option ℕ
tells_grandparent_of c (Info d Gp x) = if d == c then Some x else None
tells_grandparent_of c _ = None

-- the depth of a node below another, if that is known
abbrev pub depth_below : List Told → Option ℕ → ℕ
depth_below told None = 0
depth_below told (Some above) = depth_told told above + 1

-- the depth of a node below those that entries tell so
abbrev pub depth_under : (Told → Option ℕ) → List Told → List Told → ℕ
depth_under such told [] = 0
depth_under such told (e ∷ es) = max (depth_below told (such e)) (depth_under such told es)

-- the most internal nodes above a node, where internal ones have so many at most: a leaf has one more
abbrev pub most_depth : ℕ → ℕ → ℕ
most_depth deepest x = deepest + (x % 4 + 3) / 4

-- the level of a node: no way comes by more internal nodes to it, as ranks rise along each, and so do cards in a tree
-- that is not flat
abbrev pub level : Words → ℕ → ℕ
level w x = if w.flat_from == 0 then most_depth (card x) x else rank w x

-- how deep a node is, by all that a pass was told
abbrev pub depth_of : View → ℕ → ℕ
depth_of v x = depth_told v.told x

-- the most internal nodes above an internal node of a table: in a flat tree 64 more than in its opening tree, in any
-- other tree no more than there are cards beside card 0
abbrev pub deepest : TablePlan → ℕ
deepest plan = if plan.flat then greatest_depth (length plan.start + 1) + 64 else plan.last_card

-- a pass was told no greater depth of a node than this, if that is internal, or one more
pub record IsShallow (deepest : ℕ) (v : View) (x : ℕ) : Type 0 where
  pub inner : IsInternal x → depth_of v x ≤ deepest
  pub any : depth_of v x ≤ deepest + 1
