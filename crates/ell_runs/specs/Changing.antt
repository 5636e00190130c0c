use Rattle.std.specs.Prelude.{◌≡◌, ℕ, suc, ◌⊎◌, Bool, true, Option, Some, List, [], ◌∷◌, take, drop, ◌↔◌, ◌≢◌, ◌++◌}
use mathlib.Core.Option.{some}
use lib.ListN.{get_elem?}
use Rattle.ell_ops.specs.declared.op.Op.{Op}
use Rattle.ell_ops.specs.declared.op.Op.TheVariants.{Find, Insert, Delete, Swap}
use Rattle.ell_ops.specs.declared.reply.Reply.{Reply}
use Rattle.ell_ops.specs.Meaning.{key_of, reply_of, after, final}
use Rattle.ell_core.specs.declared.exchange.Exchange.{Exchange}
use Rattle.ell_core.specs.declared.exchange.Exchange.TheVariants as exchange
use Rattle.ell_layout.specs.Words.{Words}
use Rattle.ell_core.specs.acts.Searching.{leaf_answer}
use Rattle.ell_core.specs.statements.Effects.{reply_of_change, MakesChange, op_of_card}
use Rattle.ell_runs.specs.declared.view.View.{View}
use Rattle.ell_runs.specs.States.{TableState}
use Rattle.ell_runs.specs.Machines.{HasMachine}
use Rattle.ell_runs.specs.Turns.{Turn, CallIsMade, TableTurns, TableRun, Makes, found_by}
use Rattle.ell_runs.specs.TurnEffects.{own_words, turn_wins}
use Rattle.ell_runs.specs.Meanwhile.{KeepOn}
use Rattle.ell_runs.specs.Looking.{HasThere, WasSo}
use Rattle.ell_ops.specs.Contents.{Contents, contents_of}
use Rattle.ell_core.specs.tree.Tree.{IsTreePair}
use Rattle.ell_runs.specs.Starts.{Starts}
use Rattle.ell_layout.specs.Cards.{card_key, card_value}
use Rattle.ell_runs.specs.declared.call.Call.{Call}
use Rattle.ell_runs.specs.declared.call.Call.TheVariants as call
use Rattle.ell_runs.specs.Calls.{is_won, atomic_of}
use Rattle.ell_runs.specs.Plans.{TablePlan}

-- a call of the pass in a seat: it begins an operation here, on a key of its own or on a shared one, begins no other in
-- these turns of any passes, and answers at their end
pub record IsCalled (plan : TablePlan) (s : TableState) (seat : ℕ) (op : Op) (begun : TableState) (turns : List Turn)
    (s' : TableState) (said : Reply) : Type 0 where
  pub ended : TableState
  pub begins : CallIsMade plan s seat (call.Begin op) begun
  pub run : TableRun plan begun turns s'
  pub on : KeepOn seat turns
  pub took : Option ℕ
  pub answers : CallIsMade plan s' seat (call.Answer said took) ended

-- the answer is that on what the tree had of the key in one state of the call; no other is an insert's or a delete's no
pub record SaysWhatWas (plan : TablePlan) (op : Op) (begun : TableState) (turns : List Turn) (s' : TableState)
    (said : Reply) : Type 0 where
  pub there : Option ℕ
  pub says : leaf_answer op there ≡ Some said
  pub so : WasSo plan begun turns s' (HasThere (key_of op) there)

-- the win by which a card's operation changes the tree
abbrev pub change_of : Op → List Exchange
change_of (Find key) = []
change_of (Insert key value) = exchange.IChild ∷ []
change_of (Delete key) = exchange.DChild ∷ []
change_of (Swap key was value) = exchange.IChild ∷ []

-- a delete finds its key with the value that goes with its card
abbrev pub FindsItsValue : Op → ℕ → Words → Type 0
FindsItsValue (Find key) c w = Unit {0}
FindsItsValue (Insert key value) c w = Unit {0}
FindsItsValue (Delete key) c w = IsTreePair w key (card_value w c)
FindsItsValue (Swap key was value) c w = Unit {0}

-- in one turn of the call, of whatever pass, the child exchange of its own card was won, and changed the tree as the
-- operation says
pub record TakesEffect (plan : TablePlan) (op : Op) (c : ℕ) (begun : TableState) (turns : List Turn)
    (s' : TableState) : Type 0 where
  pub first : ℕ
  pub state : TableState
  pub turn : Turn
  pub next : TableState
  pub before : TableRun plan begun (take first turns) state
  pub now : TableTurns plan state turn next
  pub after : TableRun plan next (drop (suc first) turns) s'
  pub at : drop first turns ≡ turn ∷ drop (suc first) turns
  pub own : turn_wins state turn c ≡ change_of op
  pub changes : MakesChange op (own_words state) (own_words next)
  pub finds : FindsItsValue op c (own_words state)

-- the pass has this card in hand, flagged, when it answers
pub record HoldsAtEnd (s' : TableState) (seat c : ℕ) : Type 0 where
  pub holds : (v : View) → get_elem? s'.views seat ≡ some v → (v.worker.card ≡ Some c) × (v.worker.flagged ≡ true)

-- each call has one point within its span: a state of which its answer is, or the turn in which its card's child
-- exchange was won
abbrev pub CallsHaveTheirPoint : Type 0
CallsHaveTheirPoint = (plan : TablePlan) (s : TableState) → HasMachine plan s
    → (seat : ℕ) (op : Op) (begun : TableState) (turns : List Turn)
    (s' : TableState) (said : Reply) → IsCalled plan s seat op begun turns s' said
    → SaysWhatWas plan op begun turns s' said
    ⊎ ((said ≡ reply_of_change op)
    × ((c : ℕ) × HoldsAtEnd s' seat c × TakesEffect plan op c begun turns s'))

-- a map is what the tree of these words has: just its keys, with their values
abbrev pub HasMap : Words → Contents → Type 0
HasMap w there = (key value : ℕ) → IsTreePair w key value ↔ (there key ≡ Some value)

-- an operation leaves a map that it finds so
abbrev pub Leaves : Op → Words → Type 0
Leaves op w = (there : Contents) → HasMap w there → (key : ℕ) → after op there key ≡ there key

-- the point of a call is the next turn, in which its card's exchange is won, and the tree's map becomes the one after
-- the operation; it is the card that the pass in the seat has in hand at the end, and a delete finds its key there with
-- the card's value
pub record ChangesNext (plan : TablePlan) (seat : ℕ) (op : Op) (state : TableState) (turns : List Turn)
    (s' : TableState) : Type 0 where
  pub card : ℕ
  pub hand : HoldsAtEnd s' seat card
  pub finds : FindsItsValue op card (own_words state)
  pub turn : Turn
  pub rest : List Turn
  pub next : TableState
  pub is : turns ≡ turn ∷ rest
  pub now : TableTurns plan state turn next
  pub own : turn_wins state turn card ≡ change_of op
  pub map : (there : Contents) → HasMap (own_words state) there → HasMap (own_words next) (after op there)

-- a call answers as a map at one point of its span: where some first turns have led from its begin, its answer is the
-- reply on the map that the tree is there; and the operation leaves that map, or the next turn makes it the map after
-- the operation
pub record AnswersAt (plan : TablePlan) (seat : ℕ) (op : Op) (begun : TableState) (turns : List Turn) (s' : TableState)
    (said : Reply) : Type 0 where
  pub first : ℕ
  pub state : TableState
  pub before : TableRun plan begun (take first turns) state
  pub after : TableRun plan state (drop first turns) s'
  pub says : (there : Contents) → HasMap (own_words state) there → said ≡ reply_of op there
  pub goes : Leaves op (own_words state) ⊎ ChangesNext plan seat op state (drop first turns) s'

-- so does each call of each pass in each run, on a key of its own or on a shared one
abbrev pub CallsAnswerAsAMap : Type 0
CallsAnswerAsAMap = (plan : TablePlan) (s : TableState) → HasMachine plan s
    → (seat : ℕ) (op : Op) (begun : TableState) (turns : List Turn)
    (s' : TableState) (said : Reply) → IsCalled plan s seat op begun turns s' said
    → AnswersAt plan seat op begun turns s' said

-- a card that a pass has in hand in a state is in no other call's hand later: not in that of another pass whose call
-- goes on, nor of a call that begins later
pub record HasItAlone (plan : TablePlan) (s : TableState) (seat c : ℕ) : Type 0 where
  pub beside : (other : ℕ) → other ≢ seat → (turns : List Turn) (s' : TableState) → TableRun plan s turns s'
      → KeepOn other turns → (u : View)
      → get_elem? s.views other ≡ some u → (w : View) → get_elem? s'.views other ≡ some w → w.worker.card ≢ Some c
  pub later : (more : List Turn) (s2 : TableState) → TableRun plan s more s2
      → (other : ℕ) (op : Op) (begun : TableState) (turns : List Turn) (s' : TableState) (said : Reply)
      → IsCalled plan s2 other op begun turns s' said → (w : View) → get_elem? s'.views other ≡ some w
      → w.worker.card ≢ Some c

-- so no two calls have one card, and each point that changes the tree is one call's
abbrev pub CallsHaveTheirOwnCards : Type 0
CallsHaveTheirOwnCards = (plan : TablePlan) (s : TableState) → HasMachine plan s → (seat : ℕ) (v : View)
    → get_elem? s.views seat ≡ some v
    → (c : ℕ) → v.worker.card ≡ Some c → HasItAlone plan s seat c

-- wherever turns lead from a start, the tree is a map
pub record IsAMap (s : TableState) : Type 0 where
  pub there : Contents
  pub map : HasMap (own_words s) there

abbrev pub TreesAreMaps : Type 0
TreesAreMaps = (plan : TablePlan) (s : TableState) → Starts plan s → (turns : List Turn) (s' : TableState)
    → TableRun plan s turns s' → IsAMap s'

-- the operation by which a call changes the tree, if it does: a won ichild's insert or swap, a won dchild's delete
abbrev pub effect_of : Call → Bool → Words → List Op
effect_of (call.IChild c p l replaces right) true w = op_of_card w c ∷ []
effect_of (call.DChild c gp p y right) true w = Delete (card_key w c) ∷ []
effect_of _ _ w = []

abbrev pub turn_effect : TableState → Turn → List Op
turn_effect s (Makes seat c) = effect_of c (is_won (atomic_of c) (found_by s c)) (own_words s)
turn_effect s _ = []

-- those of a run, in their order
abbrev pub run_effects : (plan : TablePlan) (s : TableState) (turns : List Turn) (s' : TableState) → TableRun plan s turns s'
    → List Op
run_effects plan s [] s' run = []
run_effects plan s (t ∷ ts) s' run = turn_effect s t ++ run_effects plan run.0 ts s' run.2

-- wherever turns lead from a start, the tree is the map that one thread leaves which makes these operations in this
-- order
abbrev pub TreesAreOfOneThread : Type 0
TreesAreOfOneThread = (plan : TablePlan) (s : TableState) → Starts plan s → (turns : List Turn) (s' : TableState)
    (run : TableRun plan s turns s')
    → HasMap (own_words s') (final (contents_of plan.start) (run_effects plan s turns s' run))

-- the point of a call in a run from a start: turns have led there from the start, some of them of the call's span; its
-- answer is the reply of one thread that has made all operations by which the tree was changed till then, in their
-- order; and the call's own is none, or the next of them
pub record RepliesAsOneThread (plan : TablePlan) (opened : TableState) (seat : ℕ) (op : Op) (begun : TableState)
    (turns : List Turn) (s' : TableState) (said : Reply) : Type 0 where
  pub first : ℕ
  pub state : TableState
  pub before : TableRun plan begun (take first turns) state
  pub after : TableRun plan state (drop first turns) s'
  pub all : List Turn
  pub led : TableRun plan opened all state
  pub says : said ≡ reply_of op (final (contents_of plan.start) (run_effects plan opened all state led))
  pub goes : Leaves op (own_words state) ⊎ ChangesNext plan seat op state (drop first turns) s'

-- so each call does in each run from a start
abbrev pub CallsReplyAsOneThread : Type 0
CallsReplyAsOneThread =
    (plan : TablePlan) (opened : TableState) → Starts plan opened → (earlier : List Turn) (s : TableState)
    → TableRun plan opened earlier s
    → (seat : ℕ) (op : Op) (begun : TableState) (turns : List Turn) (s' : TableState) (said : Reply)
    → IsCalled plan s seat op begun turns s' said → RepliesAsOneThread plan opened seat op begun turns s' said
