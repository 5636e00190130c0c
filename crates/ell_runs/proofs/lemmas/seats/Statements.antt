use Rattle.std.specs.Prelude.{◌≡◌, ◌≢◌, ℕ, ◌<◌, ◌↔◌, Some, None, List, length, false}
use mathlib.Core.Option.{some}
use lib.ListN.{get_elem?}
use Rattle.ell_core.specs.declared.view.Entry.TheVariants.{Present}
use Rattle.ell_core.specs.state.Machine.{ledger_of}
use Rattle.ell_core.specs.soundness.Sound.{IsSound}
use Rattle.ell_core.specs.tree.Tree.{Reached, IsTreeKey, IsTreePair}
use Rattle.ell_runs.specs.Plans.{TablePlan}
use Rattle.ell_runs.specs.declared.call.Call.{Call}
use Rattle.ell_runs.specs.declared.view.View.{View}
use Rattle.ell_runs.specs.Views.{IsFree}
use Rattle.ell_runs.specs.Calls.{word_of, atomic_of, is_won, May}
use Rattle.ell_runs.specs.States.{TableState, seat_worker}
use Rattle.ell_runs.specs.Turns.{Turn, TableRun, found_by, view_after, state_after}
use Rattle.ell_runs.specs.TurnEffects.{own_words, own_machine, PairsChangeBy, LedgerChangesBy, ChangeIsOf}
use Rattle.ell_runs.specs.Machines.{HasMachine}
use Rattle.ell_runs.specs.OwnWords.{IsOwnedKey, NodeGoesOn}

-- of each state that has a machine, what the laws of OwnWords say of each that turns have led to
abbrev pub SoundByMachine : Type 0
SoundByMachine = (plan : TablePlan) (s : TableState) → HasMachine plan s → IsSound (own_machine plan.last_card s)

abbrev pub InsideByMachine : Type 0
InsideByMachine = (plan : TablePlan) (s : TableState) → HasMachine plan s → (id : ℕ) (v : View) (c : Call)
    → get_elem? s.views id ≡ some v → May plan c v → word_of c < length s.words

abbrev pub PairsByMachine : Type 0
PairsByMachine = (plan : TablePlan) (s : TableState) → HasMachine plan s → (id : ℕ) (v : View) (c : Call)
    → get_elem? s.views id ≡ some v → May plan c v
    → PairsChangeBy c (is_won (atomic_of c) (found_by s c)) (own_words s) (own_words (state_after s id v c))

abbrev pub OperationsByMachine : Type 0
OperationsByMachine = (plan : TablePlan) (s : TableState) → HasMachine plan s → (id : ℕ) (v : View) (c : Call)
    → get_elem? s.views id ≡ some v → May plan c v → ChangeIsOf c (is_won (atomic_of c) (found_by s c)) s

abbrev pub AnswersByMachine : Type 0
AnswersByMachine = (plan : TablePlan) (s : TableState) → HasMachine plan s → (id : ℕ) (v : View) (c : Call)
    → get_elem? s.views id ≡ some v → May plan c v → LedgerChangesBy c v (view_after s v c)

abbrev pub LedgersByMachine : Type 0
LedgersByMachine = (plan : TablePlan) (s : TableState) → HasMachine plan s → (id : ℕ) (v : View)
    → get_elem? s.views id ≡ some v → IsFree v → (key value : ℕ) → ledger_of v.worker.ledger key ≢ None
    → IsTreePair (own_words s) key value ↔ (ledger_of v.worker.ledger key ≡ Some (Present value))

abbrev pub OwnedByMachine : Type 0
OwnedByMachine = (plan : TablePlan) (s : TableState) → HasMachine plan s → (key : ℕ)
    → ((i : ℕ) → (seat_worker (get_elem? s.views i)).shared key ≡ false) → IsTreeKey (own_words s) key → IsOwnedKey s key

abbrev pub NodesByMachine : Type 0
NodesByMachine = (plan : TablePlan) (s : TableState) → HasMachine plan s → (turns : List Turn) (s' : TableState)
    → TableRun plan s turns s' → (x : ℕ) → Reached (own_words s) x → NodeGoesOn (own_words s) (own_words s') x
