use Rattle.std.specs.Prelude.{◌≡◌, ℕ, ◌⊎◌, Bool, true, false, List, None, []}
use mathlib.Core.Option.{some}
use lib.ListN.{get_elem?}
use Rattle.ell_word.specs.Node.{card}
use Rattle.ell_layout.specs.declared.field.Field.{Field}
use Rattle.ell_layout.specs.declared.field.Field.TheVariants as field
use Rattle.ell_layout.specs.Layout.{address}
use Rattle.ell_layout.specs.Words.{Words}
use Rattle.ell_core.specs.declared.fact.Fact.TheVariants as fact
use Rattle.ell_core.specs.history.Stages.{Stages}
use Rattle.ell_core.specs.statements.Since.{has_ended}
use Rattle.ell_grace.specs.Gone.{IsGone, HasOuts}
use Rattle.ell_runs.specs.declared.call.Call.{Call}
use Rattle.ell_runs.specs.declared.call.Call.TheVariants as call
use Rattle.ell_runs.specs.declared.view.View.{View}
use Rattle.ell_runs.specs.declared.view.Told.TheVariants.{Info, Met, Key}
use Rattle.ell_runs.specs.Met.{NamesMet, LeafIsChild}
use Rattle.ell_runs.specs.Plans.{TablePlan}
use Rattle.ell_runs.specs.Views.{IsTold, Knows, IsFree}
use Rattle.ell_runs.specs.Calls.{OnCard, OnNode, Where, where_of, May, word_of}
use Rattle.ell_runs.specs.States.{TableState}
use Rattle.ell_runs.specs.Machines.{HasMachine}
use Rattle.ell_runs.specs.Laws.{machine_of_table}
use Rattle.ell_runs.specs.Starts.{IsReached}
use Rattle.ell_runs.specs.Turns.{Turn, CallIsMade, TableRun}
use Rattle.ell_runs.specs.declared.view.Told.{Told}

-- what was told names no node but the root
abbrev pub IsOfRoot : Told → Type 0
IsOfRoot (Met x) = x ≡ 0
IsOfRoot (Key x key) = x ≡ 0
IsOfRoot _ = ⊥

-- a pass has nothing in hand and stands nowhere, and has forgotten what it was told, and where a look had come to
pub record IsAtRest (v : View) : Type 0 where
  pub free : IsFree v
  pub nowhere : v.worker.search.node ≡ None
  pub empty : v.worker.card ≡ None
  pub forgot : (e : Told) → IsTold v e → IsOfRoot e
  pub nothing : v.glances ≡ []

-- whether a call forgets what its pass was told before it
abbrev pub forgets : Call → Bool
forgets (call.Begin op) = true
forgets call.Again = true
forgets call.Leave = true
forgets (call.Answer said took) = true
forgets call.Look = true
forgets call.Rest = true
forgets _ = false

-- whose word a call touches: a node's; a card's, which says where it goes; or no card's but the root's, or the claim word
pub data Touched : Type 0 where
  AtNode : ℕ → Touched
  OfCard : ℕ → Touched
  AtRoot : Touched

abbrev pub touched_at : Where → Touched
touched_at (OnNode x f) = AtNode x
touched_at (OnCard c f) = OfCard c
touched_at _ = AtRoot

abbrev pub touched_by : Call → Touched
touched_by c = touched_at (where_of c)

-- a word is one of these
abbrev pub IsWordOf : Touched → ℕ → Type 0
IsWordOf (AtNode x) n = (f : Field) × (n ≡ address (card x) f)
IsWordOf (OfCard c) n = (f : Field) × (n ≡ address c f)
IsWordOf AtRoot n = (n ≡ 0) ⊎ ((f : Field) × (n ≡ address 0 f))

-- so is the word of each call
abbrev pub CallsTouchTheirWords : Type 0
CallsTouchTheirWords = (c : Call) → IsWordOf (touched_by c) (word_of c)

-- at these words and stages that was not gone: the node was not, and the card had not ended
abbrev pub WasThere : Words → Stages → Touched → Type 0
WasThere w stage (AtNode x) = ¬ IsGone w stage x
WasThere w stage (OfCard c) = has_ended (stage c) ≡ false
WasThere w stage AtRoot = Unit {0}

-- wherever turns have led a table, its machine has taken out of the tree what it has taken out
abbrev pub TablesHaveOuts : Type 0
TablesHaveOuts = (plan : TablePlan) (s : TableState) → IsReached plan s
    → (r : HasMachine plan s) × HasOuts (machine_of_table plan s r)

-- From where a pass makes a call by which it forgets, as where it begins an operation or a look, on through any turns of
-- any passes: each step call that it may make touches nothing that was gone in the state in which it made that call.
abbrev pub CallsTouchNothingGone : Type 0
CallsTouchNothingGone = (plan : TablePlan) (s : TableState) → IsReached plan s → (seat : ℕ) (c : Call) (begun : TableState)
    → CallIsMade plan s seat c begun → forgets c ≡ true
    → (r : HasMachine plan s) (has : HasOuts (machine_of_table plan s r))
    → (turns : List Turn) (now : TableState) → TableRun plan begun turns now
    → (v : View) → get_elem? now.views seat ≡ some v → (next : Call) → May plan next v
    → WasThere r.words has.stages (touched_by next)

-- a pass was told that the two leaves of a card have one key: it is a swap's
pub record KnowsOneKey (v : View) (c : ℕ) : Type 0 where
  pub key : ℕ
  pub left : IsTold v (Info c field.LeftLeafKey key)
  pub right : IsTold v (Info c field.RightLeafKey key)

-- By what a pass knows, a card that is over has taken a node out: a swap the leaf in whose place its node came, or a delete
-- its leaf or the leaf's parent.
abbrev pub KnowsTakenOut : View → ℕ → ℕ → Type 0
KnowsTakenOut v c x =
    (Knows v (fact.IOver c) × KnowsOneKey v c × IsTold v (Info c field.L x))
    ⊎ (Knows v (fact.DOver c) × (IsTold v (Info c field.P x) ⊎ IsTold v (Info c field.L x)))

-- such a node is gone
abbrev pub KnownTakenOutIsGone : Type 0
KnownTakenOutIsGone = (plan : TablePlan) (s : TableState) (seat : ℕ) (v : View)
    → get_elem? s.views seat ≡ some v → (c x : ℕ) → KnowsTakenOut v c x
    → (r : HasMachine plan s) (has : HasOuts (machine_of_table plan s r)) → IsGone r.words has.stages x

-- it is the root's, or the claim word
abbrev pub IsTheRoots : Touched → Type 0
IsTheRoots (AtNode x) = x ≡ 0
IsTheRoots (OfCard c) = ⊥
IsTheRoots AtRoot = Unit {0}

-- a pass at rest, which has nothing in hand and has forgotten what it was told, may touch no other
abbrev pub RestTouchesTheRoot : Type 0
RestTouchesTheRoot = (plan : TablePlan) (v : View) → IsAtRest v → (c : Call) → May plan c v → IsTheRoots (touched_by c)

-- Wherever turns have led a table, the nodes that a pass names it has met, but for leaves of cards; and the leaf of a card
-- that it knows marked is one of the children that the card's parent has for good.
abbrev pub PassesNameMet : Type 0
PassesNameMet = (plan : TablePlan) (s : TableState) → IsReached plan s → (seat : ℕ) (v : View)
    → get_elem? s.views seat ≡ some v → NamesMet v × LeafIsChild v
