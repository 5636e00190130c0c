use Rattle.std.specs.Prelude.{◌≡◌, ◌≢◌, ◌≤◌, ℕ, ◌==◌, if◌then◌else◌, true, IfSome, Option, Some, None, []}
use Rattle.ell_ops.specs.declared.op.Op.{Op}
use Rattle.ell_ops.specs.declared.op.Op.TheVariants.{Insert}
use Rattle.ell_block.specs.Blocks.{InBlockOf}
use Rattle.ell_word.specs.Node.{IsInternal}
use Rattle.ell_ops.specs.Meaning.{key_of}
use Rattle.ell_word.specs.Link.{greatest_tag}
use Rattle.ell_word.specs.Word.{packed}
use Rattle.ell_word.specs.declared.link.Link.{Link}
use Rattle.ell_core.specs.declared.view.Seen.{Seen}
use Rattle.ell_core.specs.declared.view.Search.{Search}
use Rattle.ell_core.specs.state.Machine.{ledger_of}
use Rattle.ell_core.specs.statements.Effects.{contents_in}
use Rattle.ell_core.specs.acts.Searching.{at_root}
use Rattle.ell_layout.specs.Words.{IsLeaf, has_block}
use Rattle.ell_runs.specs.declared.view.Told.TheVariants.{Met, Key, Value}
use Rattle.ell_runs.specs.declared.view.View.{View}
use Rattle.ell_runs.specs.Plans.{TablePlan, flat_from}
use Rattle.ell_runs.specs.Views.{IsTold, Does, InTable, EndWasUnknown}
use Rattle.ell_runs.specs.Changes.{value_told}
use Rattle.ell_tree.specs.declared.searching.Passed.{Passed}
use Rattle.ell_tree.specs.declared.searching.Place.{Place}
use Rattle.ell_tree.specs.Keeping.{IsSeenAt}

-- an operation is in hand, its search stands at the root, and its try has met nothing yet
pub record AtRoot (op : Op) (v : View) : Type 0 where
  pub busy : Does v op
  pub root : v.worker.search ≡ at_root
  pub no_card : v.worker.card ≡ None
  pub met : IsTold v (Met 0)
  pub before : v.knew_before ≡ v.worker.knows
  pub unmet : v.met ≡ []

-- a node that a search passed, as the view has it
abbrev pub seen : Passed → Seen
seen x = record { node = x.node; word = packed x.update; tag = x.tag }

abbrev pub seen_any : Option Passed → Option Seen
seen_any None = None
seen_any (Some x) = Some (seen x)

-- a search that stands at a child of a node that it passed
abbrev pub below : ℕ → Passed → Option Seen → Search
below child x above = record { node = Some child; read = None; parent = Some (seen x); grandparent = above }

-- what a search read at a node that it passed is known: the update, and a tag of a child word
pub record KnowsPassed (last : ℕ) (w : View) (x : Passed) : Type 0 where
  pub seen : IsSeenAt last w x.node x.update
  pub tag : x.tag ≤ greatest_tag

-- what it read there is clean, or of a card whose end the pass did not know when its search began
abbrev pub EndWasUnknownAt : View → Passed → Type 0
EndWasUnknownAt w x = EndWasUnknown w x.update.state x.update.card

-- a search for an operation ends at an internal node of this key, in a tree that is flat from a card on: an insert's
-- does where the node's block lacks its key
abbrev pub EndsAbove : ℕ → Op → ℕ → ℕ → Type 0
EndsAbove from (Insert k value) x key = (has_block from x ≡ true) × (¬ InBlockOf key k)
EndsAbove from _ x key = ⊥

-- it may go on below such a node
abbrev pub MayPass : ℕ → Op → ℕ → ℕ → Type 0
MayPass from (Insert k value) x key = has_block from x ≡ true → InBlockOf key k
MayPass from _ x key = Unit {0}

-- it has gone on below a node whose key was told, so that an insert's key is in its block
abbrev pub FitsBelow : ℕ → View → Op → ℕ → Type 0
FitsBelow from w (Insert k value) x = has_block from x ≡ true → (key : ℕ) × IsTold w (Key x key) × InBlockOf key k
FitsBelow from w _ x = Unit {0}

-- a search stands at the node of a place, and was told its key and, of a leaf, its value
pub record IsAt (w : View) (place : Place) : Type 0 where
  pub search : w.worker.search ≡ below place.node place.parent (seen_any place.grandparent)
  pub told : w.here ≡ Some place.key
  pub leaf : IsLeaf place.node → IsTold w (Value place.node place.value)
  pub value : value_told w.told place.node ≡ place.value

-- what a place has of a key: its value, if its node has that key
abbrev pub there_at : Place → ℕ → Option ℕ
there_at place k = if place.key == k then Some place.value else None

-- the node of a place with a tag
abbrev pub node_with : Place → ℕ → Link
node_with place tag = record { node = place.node; tag = tag }

-- a search ended at a place, which has of the operation's key what the ledger has, if that has the key. It is a leaf,
-- or an internal node of another key at which a search for the operation ends; if it has the operation's key, there
-- is a grandparent
pub record EndsAt (plan : TablePlan) (w : View) (op : Op) (place : Place) : Type 0 where
  pub at : IsAt w place
  pub node : InTable plan.last_card place.node
  pub edge : IsInternal place.node → EndsAbove (flat_from plan) op place.node place.key
  pub outer : place.key ≡ key_of op → IsLeaf place.node
  pub passed : KnowsPassed plan.last_card w place.parent
  pub passed_above : IfSome place.grandparent (λ x. KnowsPassed plan.last_card w x)
  pub fits : FitsBelow (flat_from plan) w op place.parent.node
  pub unknown : EndWasUnknownAt w place.parent
  pub unknown_above : IfSome place.grandparent (EndWasUnknownAt w)
  pub there : ledger_of w.worker.ledger (key_of op) ≢ None
      → contents_in (ledger_of w.worker.ledger) (key_of op) ≡ there_at place (key_of op)
  pub deep : place.key ≡ key_of op → place.grandparent ≢ None

-- the search of a try has ended at a place; the try has met nothing yet, and has no card
pub record HasSearched (plan : TablePlan) (op : Op) (place : Place) (v : View) : Type 0 where
  pub busy : Does v op
  pub ends : EndsAt plan v op place
  pub no_card : v.worker.card ≡ None
  pub unmet : v.met ≡ []
