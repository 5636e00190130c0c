use Rattle.std.specs.Prelude.{◌≡◌, ℕ, ◌+◌, ◌*◌, ◌≤◌, ◌&&◌, if◌then◌else◌, Bool, true, false, List, [], ◌∷◌, is_some, length}
use Rattle.ell_word.specs.Node.{IsInternal}
use Rattle.ell_layout.specs.Words.{Words}
use Rattle.ell_core.specs.tree.Tree.{Leads}
use Rattle.ell_runs.specs.declared.call.Call.{Call}
use Rattle.ell_runs.specs.declared.call.Call.TheVariants as call
use Rattle.ell_runs.specs.declared.view.View.{View}
use Rattle.ell_runs.specs.Depths.{deepest}
use Rattle.ell_runs.specs.Calls.{atomic_of, is_won}
use Rattle.ell_runs.specs.Contention.{cards_in_hand}
use Rattle.ell_runs.specs.States.{TableState}
use Rattle.ell_runs.specs.Turns.{Turn, Makes, TableRun, found_by}
use Rattle.ell_runs.specs.TurnEffects.{own_words}
use Rattle.ell_runs.specs.Starts.{Starts, IsReached}
use Rattle.ell_runs.specs.Plans.{TablePlan}

-- a step call that sets a flag
abbrev pub is_flag : Call → Bool
is_flag (call.IFlag c p from) = true
is_flag (call.DFlag c gp from) = true
is_flag _ = false

-- one that exchanges a child, by which the tree changes
abbrev pub is_change : Call → Bool
is_change (call.IChild c p l replaces right) = true
is_change (call.DChild c gp p y right) = true
is_change _ = false

-- whether a turn is a won exchange of such a kind
abbrev pub wins : (Call → Bool) → TableState → Turn → Bool
wins is_such s (Makes seat c) = is_such c && is_won (atomic_of c) (found_by s c)
wins is_such s _ = false

-- how many turns of a run are
abbrev pub won_in : (Call → Bool) → (plan : TablePlan) (s : TableState) (turns : List Turn) (s' : TableState)
    → TableRun plan s turns s' → ℕ
won_in is_such plan s [] s' run = 0
won_in is_such plan s (t ∷ ts) s' run = (if wins is_such s t then 1 else 0) + won_in is_such plan run.0 ts s' run.2

-- no path from the root to an internal node is longer than this
abbrev pub HasHeight : Words → ℕ → Type 0
HasHeight w h = (path : List Bool) (x : ℕ) → Leads w 0 path x → IsInternal x → length path ≤ h

-- the tree of a table is no higher than its internal nodes may be deep
abbrev pub TablesHaveHeights : Type 0
TablesHaveHeights = (plan : TablePlan) (s : TableState) → IsReached plan s → HasHeight (own_words s) (deepest plan)

-- a run of a table from its start, and after it a stretch of any turns of any passes in which no exchange of a child is
-- won
pub record Stretch (plan : TablePlan) : Type 0 where
  pub opened : TableState
  pub starts : Starts plan opened
  pub before : List Turn
  pub begun : TableState
  pub led : TableRun plan opened before begun
  pub turns : List Turn
  pub now : TableState
  pub run : TableRun plan begun turns now
  pub unchanged : won_in is_change plan begun turns now run ≡ 0

-- how many passes have an operation in hand
abbrev pub passes_at_work : List View → ℕ
passes_at_work [] = 0
passes_at_work (v ∷ vs) = (if is_some v.worker.operation then 1 else 0) + passes_at_work vs

-- in such a stretch few flags are won, if the tree that it begins with, and keeps, has this height: on each level at
-- most one for each pass that was at work when it began and two for each card that is in a hand when it ends, and
-- beside them one for each such card
abbrev pub FewFlagsWithoutAChange : Type 0
FewFlagsWithoutAChange = (plan : TablePlan) (r : Stretch plan) (h : ℕ) → HasHeight (own_words r.begun) h
    → won_in is_flag plan r.begun r.turns r.now r.run
    ≤ (h + 1) * (passes_at_work r.begun.views + 2 * cards_in_hand r.now.views) + cards_in_hand r.now.views
