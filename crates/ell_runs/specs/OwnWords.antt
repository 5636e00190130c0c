use Rattle.std.specs.Prelude.{◌≡◌, ◌≢◌, ℕ, ◌<◌, ◌≤◌, ◌↔◌, Bool, Some, None, List, length}
use mathlib.Core.Option.{some}
use lib.ListN.{get_elem?}
use Rattle.ell_word.specs.Node.{IsInternal}
use Rattle.ell_word.specs.Word.{unpacked}
use Rattle.ell_word.specs.declared.update.State.TheVariants as state
use Rattle.ell_core.specs.declared.view.Entry.TheVariants.{Present}
use Rattle.ell_layout.specs.Words.{Words}
use Rattle.ell_core.specs.state.Machine.{ledger_of}
use Rattle.ell_core.specs.soundness.Sound.{IsSound}
use Rattle.ell_core.specs.tree.Tree.{Reached, IsTreeKey, IsTreePair}
use Rattle.ell_core.specs.history.Later.{SameNode}
use Rattle.ell_runs.specs.declared.call.Call.{Call}
use Rattle.ell_runs.specs.declared.view.View.{View}
use Rattle.ell_runs.specs.Plans.{TablePlan}
use Rattle.ell_runs.specs.Views.{IsFree}
use Rattle.ell_runs.specs.Calls.{word_of, atomic_of, is_won, May}
use Rattle.ell_runs.specs.States.{TableState}
use Rattle.ell_runs.specs.Turns.{Turn, TableRun, found_by, view_after, state_after}
use Rattle.ell_runs.specs.TurnEffects.{own_words, own_machine, PairsChangeBy, LedgerChangesBy, ChangeIsOf}
use Rattle.ell_runs.specs.Starts.{IsReached, IsSharedIn}

-- wherever turns have led a table, its own words, with what its passes know, are a sound state
abbrev pub OwnWordsAreSound : Type 0
OwnWordsAreSound = (plan : TablePlan) (s : TableState) → IsReached plan s → IsSound (own_machine plan.last_card s)

-- the word that a step call touches is one of the table
abbrev pub StepsStayInside : Type 0
StepsStayInside = (plan : TablePlan) (s : TableState) → IsReached plan s → (id : ℕ) (v : View) (c : Call)
    → get_elem? s.views id ≡ some v → May plan c v → word_of c < length s.words

-- each step call of each pass changes the pairs of the tree that the table's own words make as that call does
abbrev pub TablePairsChangeAtWins : Type 0
TablePairsChangeAtWins = (plan : TablePlan) (s : TableState) → IsReached plan s → (id : ℕ) (v : View) (c : Call)
    → get_elem? s.views id ≡ some v → May plan c v
    → PairsChangeBy c (is_won (atomic_of c) (found_by s c)) (own_words s) (own_words (state_after s id v c))

-- a won child exchange of each pass, which may be another's helper, is of an operation that some pass has in hand
abbrev pub TableChangesAreOperations : Type 0
TableChangesAreOperations = (plan : TablePlan) (s : TableState) → IsReached plan s → (id : ℕ) (v : View) (c : Call)
    → get_elem? s.views id ≡ some v → May plan c v → ChangeIsOf c (is_won (atomic_of c) (found_by s c)) s

-- each step call of each pass changes its ledger as that call does
abbrev pub TableAnswersAreTheMaps : Type 0
TableAnswersAreTheMaps = (plan : TablePlan) (s : TableState) → IsReached plan s → (id : ℕ) (v : View) (c : Call)
    → get_elem? s.views id ≡ some v → May plan c v → LedgerChangesBy c v (view_after s v c)

-- a pass with nothing in hand has each of its keys in its ledger as the tree has it that the table's own words make,
-- with its value
abbrev pub LedgersTellTheTree : Type 0
LedgersTellTheTree = (plan : TablePlan) (s : TableState) → IsReached plan s → (id : ℕ) (v : View)
    → get_elem? s.views id ≡ some v → IsFree v → (key value : ℕ) → ledger_of v.worker.ledger key ≢ None
    → IsTreePair (own_words s) key value ↔ (ledger_of v.worker.ledger key ≡ Some (Present value))

-- a key is some pass's
pub record IsOwnedKey (s : TableState) (key : ℕ) : Type 0 where
  pub seat : ℕ
  pub view : View
  pub there : get_elem? s.views seat ≡ some view
  pub owns : ledger_of view.worker.ledger key ≢ None

-- each key of that tree that is not shared is
abbrev pub TreeKeysAreOwned : Type 0
TreeKeysAreOwned = (plan : TablePlan) (s : TableState) → IsReached plan s → (key : ℕ)
    → IsTreeKey (own_words s) key → ¬ IsSharedIn plan key → IsOwnedKey s key

-- a node goes on: it has its key; the tags of an internal one's child words and its update word only rise, a child is the
-- same while its tag is, and once the update word is a mark, neither it nor the children change
pub record NodeGoesOn (old new : Words) (x : ℕ) : Type 0 where
  pub key : new.key x ≡ old.key x
  pub tags : IsInternal x → (right : Bool) → old.tag x right ≤ new.tag x right
  pub children : IsInternal x → (right : Bool) → new.tag x right ≡ old.tag x right → new.child x right ≡ old.child x right
  pub update : IsInternal x → old.update x ≤ new.update x
  pub frozen : IsInternal x → (unpacked (old.update x)).state ≡ state.Mark → SameNode old new x

-- so does each node that was reached once, in every run, by the table's own words
abbrev pub TableNodesGoOn : Type 0
TableNodesGoOn = (plan : TablePlan) (s : TableState) → IsReached plan s
    → (turns : List Turn) (s' : TableState) → TableRun plan s turns s' → (x : ℕ) → Reached (own_words s) x
    → NodeGoesOn (own_words s) (own_words s') x
