use Rattle.std.specs.Prelude.{◌≡◌, ◌≢◌, ◌↔◌, ℕ, ◌≤◌, ◌⊎◌, List, length, Some, None, Contains}
use mathlib.Core.Option.{some}
use lib.ListN.{get_elem?}
use Rattle.ell_word.specs.Node.{card, IsInternal, IsNode}
use Rattle.ell_layout.specs.Layout.{table_size}
use Rattle.ell_layout.specs.Words.{words_of}
use Rattle.ell_core.specs.state.Machine.{ledger_of}
use Rattle.ell_core.specs.acts.Searching.{IsClean}
use Rattle.ell_core.specs.tree.Tree.{Reached, IsTreeKey, IsTreePair, IsLawful}
use Rattle.ell_runs.specs.declared.view.View.{View}
use Rattle.ell_runs.specs.States.{TableState}
use Rattle.ell_runs.specs.Starts.{IsReached, IsSharedIn, RunFromStart}
use Rattle.ell_core.specs.declared.view.Entry.{Entry}
use Rattle.ell_core.specs.declared.view.Entry.TheVariants.{Present}
use Rattle.ell_cards.specs.Models.{PassModel}
use Rattle.ell_runs.specs.Plans.{TablePlan}
use Rattle.ell_cards.specs.Shown.{shown}
use Rattle.ell_runs.specs.declared.view.Event.{Event}
use Rattle.ell_runs.specs.Changing.{HasMap}
use Rattle.ell_runs.specs.Linearizing.{ops_of}
use Rattle.ell_runs.specs.Seeing.{HasSeenAll}
use Rattle.ell_runs.specs.Sights.{IsPart}
use Rattle.ell_ops.specs.Contents.{Contents, contents_of}
use Rattle.ell_ops.specs.Meaning.{final}

-- the words of a table that has ended, and how many cards it has beside card 0
pub record ClosedModel : Type 0 where
  pub words : List ℕ
  pub last_card : ℕ

-- the tree of the words of a closed table, which a pass closed that owned all keys of the plan with this ledger: it is
-- lawful, its nodes are of the table, its update words are clean, and its keys are of the plan or shared; of the plan's
-- keys those are there, with their values, that the ledger has present; the ledger has keys of the plan alone
pub record ShowsMap (plan : TablePlan) (ledger : List (ℕ × Entry)) (t : ClosedModel) : Type 0 where
  pub size : length t.words ≡ table_size t.last_card
  pub tree : IsLawful (words_of t.words)
  pub nodes : (x : ℕ) → Reached (words_of t.words) x → card x ≤ t.last_card
  pub numbers : (x : ℕ) → Reached (words_of t.words) x → IsNode x
  pub clean : (x : ℕ) → Reached (words_of t.words) x → IsInternal x → IsClean ((words_of t.words).update x)
  pub owned : (key : ℕ) → IsTreeKey (words_of t.words) key → Contains plan.keys key ⊎ IsSharedIn plan key
  pub listed : (key : ℕ) → ledger_of ledger key ≢ None → Contains plan.keys key
  pub present : (key value : ℕ) → Contains plan.keys key
      → IsTreePair (words_of t.words) key value ↔ (ledger_of ledger key ≡ Some (Present value))

-- the words of a table that has ended are those of a last state, to which turns of its passes have led from its start,
-- and in which a pass knows what is shown so; what such a run does, that run did
pub record TableRan (plan : TablePlan) (v : View) (t : ClosedModel) : Type 0 where
  pub state : TableState
  pub seat : ℕ
  pub same : state.words ≡ t.words
  pub knows : View
  pub shows : shown knows ≡ v
  pub seen : get_elem? state.views seat ≡ some knows
  pub reached : IsReached plan state
  pub did : RunFromStart plan reached.first reached.turns state reached.run

-- how a table ends, by a pass that knows this: by a run from its start, with a tree that shows the pass's ledger
pub record TableEnds (plan : TablePlan) (v : View) (t : ClosedModel) : Type 0 where
  pub ran : TableRan plan v t
  pub shows : ShowsMap plan v.worker.ledger t

-- what a pass knows that closes a table: all of its history, which goes on from what the pass had seen; and the map
-- that the calls of the history leave in their order
pub record EndsHistory (plan : TablePlan) (p : PassModel) (left : Contents) : Type 0 where
  pub seen : List Event
  pub more : IsPart p.sight.seen seen
  pub all : HasSeenAll plan p.view (record p.sight { seen = seen })
  pub leaves : left ≡ final (contents_of plan.start) (ops_of all.linear.order)

-- that map is the tree of the table's words
pub record HistoryEnds (plan : TablePlan) (p : PassModel) (t : ClosedModel) : Type 0 where
  pub left : Contents
  pub is : HasMap (words_of t.words) left
  pub ends : EndsHistory plan p left
