use Rattle.std.specs.Prelude.{◌≡◌, ℕ, if◌then◌else◌, Bool, true, Some, List, [], ◌∷◌, ◌++◌}
use mathlib.Core.Option.{some}
use lib.ListN.{get_elem?}
use Rattle.ell_ops.specs.declared.op.Op.{Op}
use Rattle.ell_ops.specs.declared.op.Op.TheVariants.{Delete}
use Rattle.ell_core.specs.declared.exchange.Exchange.{Exchange}
use Rattle.ell_core.specs.declared.exchange.Exchange.TheVariants as exchange
use Rattle.ell_layout.specs.Words.{Words, words_of}
use Rattle.ell_core.specs.state.Machine.{Machine, ledger_of, worker_of}
use Rattle.ell_layout.specs.Cards.{card_key, card_value}
use Rattle.ell_core.specs.soundness.Sound.{IsSound}
use Rattle.ell_core.specs.acts.Wins.{win_for}
use Rattle.ell_core.specs.statements.Effects.{MakesChange, op_of_card, TakesPair, SamePairs, AnswersAsMap}
use Rattle.ell_runs.specs.declared.call.Call.{Call}
use Rattle.ell_runs.specs.declared.call.Call.TheVariants as call
use Rattle.ell_runs.specs.declared.view.View.{View}
use Rattle.ell_runs.specs.Views.{Does}
use Rattle.ell_runs.specs.Calls.{atomic_of, is_won}
use Rattle.ell_runs.specs.States.{TableState, seated}
use Rattle.ell_runs.specs.Turns.{Turn, Makes, TableTurns, TableRun, found_by, view_after}
use Rattle.ell_runs.specs.Plans.{TablePlan}

-- the table's own words, by their names
abbrev pub own_words : TableState → Words
own_words s = words_of s.words

-- the machine that has the table's own words, and the passes for workers
abbrev pub own_machine : ℕ → TableState → Machine
own_machine last s = seated (own_words s) s.views last

-- what a call does to the tree: a won ichild adds its card's pair or replaces a value, a won dchild takes its pair away
abbrev pub PairsChangeBy : Call → Bool → Words → Words → Type 0
PairsChangeBy (call.IChild c p l replaces right) true old new = MakesChange (op_of_card old c) old new
PairsChangeBy (call.DChild c gp p s right) true old new = TakesPair old new (card_key old c) (card_value old c)
PairsChangeBy _ _ old new = SamePairs old new

-- what a call does to its pass's ledger: an answer is the map's, and makes it the map after; no other call changes it
abbrev pub LedgerChangesBy : Call → View → View → Type 0
LedgerChangesBy (call.Answer said took) v w = AnswersAsMap (worker_of v.worker) (ledger_of w.worker.ledger) said
LedgerChangesBy _ v w = w.worker.ledger ≡ v.worker.ledger

-- a pass has this operation in hand, and for it this card, flagged
pub record IsAtWork (s : TableState) (c : ℕ) (op : Op) : Type 0 where
  pub seat : ℕ
  pub view : View
  pub there : get_elem? s.views seat ≡ some view
  pub does : Does view op
  pub holds : view.worker.card ≡ Some c
  pub flagged : view.worker.flagged ≡ true

-- whose a won child exchange is: some pass has the card in hand, for that insert or swap, or for that delete
abbrev pub ChangeIsOf : Call → Bool → TableState → Type 0
ChangeIsOf (call.IChild c p l replaces right) true s = IsAtWork s c (op_of_card (own_words s) c)
ChangeIsOf (call.DChild c gp p y right) true s = IsAtWork s c (Delete (card_key (own_words s) c))
ChangeIsOf _ _ s = Unit {0}

-- how a turn changes the tree that the table's own words make: as its call says; a split or a join not at all
abbrev pub PairsGoBy : TableState → Turn → TableState → Type 0
PairsGoBy s (Makes seat c) s' = PairsChangeBy c (is_won (atomic_of c) (found_by s c)) (own_words s) (own_words s')
PairsGoBy s _ s' = SamePairs (own_words s) (own_words s')

-- whose a won ichild or dchild is: some pass has that insert or delete in hand
abbrev pub IsWonFor : TableState → Turn → Type 0
IsWonFor s (Makes seat c) = ChangeIsOf c (is_won (atomic_of c) (found_by s c)) s
IsWonFor s _ = Unit {0}

-- what a call does to the ledger of its pass: an answer is the map's, and no other call changes it
abbrev pub LedgerGoesBy : (plan : TablePlan) (s : TableState) (t : Turn) (s' : TableState) → TableTurns plan s t s' → Type 0
LedgerGoesBy plan s (Makes seat c) s' turn = LedgerChangesBy c turn.view (view_after s turn.view c)
LedgerGoesBy plan s _ s' turn = Unit {0}

-- what a turn does, by the table's own words: the tree changes at a won ichild or dchild alone, by that card's key, for
-- an operation in some hand; an answer is the map's; and the words after it, with what passes know, are a sound state
pub record TurnDoes (plan : TablePlan) (s : TableState) (t : Turn) (s' : TableState) (turn : TableTurns plan s t s')
    : Type 0 where
  pub pairs : PairsGoBy s t s'
  pub won : IsWonFor s t
  pub ledger : LedgerGoesBy plan s t s' turn
  pub sound : IsSound (own_machine plan.last_card s')

-- so does each turn of a run
abbrev pub TurnsDo :
    (plan : TablePlan) (s : TableState) (turns : List Turn) (s' : TableState) → TableRun plan s turns s' → Type 0
TurnsDo plan s [] s' run = Unit {0}
TurnsDo plan s (t ∷ ts) s' run = TurnDoes plan s t run.0 run.1 × TurnsDo plan run.0 ts s' run.2

-- what a call wins for a card, if it is a won exchange
abbrev pub win_of : Call → ℕ → List Exchange
win_of (call.IFlag c p from) d = win_for (Some c) exchange.IFlag d
win_of (call.IChild c p l replaces right) d = win_for (Some c) exchange.IChild d
win_of (call.IUnflag c p) d = win_for (Some c) exchange.IUnflag d
win_of (call.DFlag c gp from) d = win_for (Some c) exchange.DFlag d
win_of (call.Mark c p was) d = win_for (Some c) exchange.Mark d
win_of (call.DChild c gp p s right) d = win_for (Some c) exchange.DChild d
win_of (call.DUnflag c gp) d = win_for (Some c) exchange.DUnflag d
win_of (call.Backtrack c gp) d = win_for (Some c) exchange.Backtrack d
win_of _ d = []

-- what a turn wins for a card
abbrev pub turn_wins : TableState → Turn → ℕ → List Exchange
turn_wins s (Makes seat c) d = if is_won (atomic_of c) (found_by s c) then win_of c d else []
turn_wins s _ d = []

-- what a run wins for a card, in its order
abbrev pub run_wins :
    (plan : TablePlan) (s : TableState) (turns : List Turn) (s' : TableState) → TableRun plan s turns s' → ℕ → List Exchange
run_wins plan s [] s' run d = []
run_wins plan s (t ∷ ts) s' run d = turn_wins s t d ++ run_wins plan run.0 ts s' run.2 d
