use Rattle.std.specs.Prelude.{◌≡◌, ◌≢◌, ℕ, ◌⊎◌, true, Some, List}
use mathlib.Core.Option.{some}
use lib.ListN.{get_elem?}
use Rattle.ell_ops.specs.declared.op.Op.{Op}
use Rattle.ell_ops.specs.Meaning.{key_of}
use Rattle.ell_word.specs.Node.{card, internal, left_leaf, right_leaf}
use Rattle.ell_layout.specs.declared.field.Field.{Field}
use Rattle.ell_layout.specs.declared.field.Field.TheVariants as field
use Rattle.ell_layout.specs.Layout.{address}
use Rattle.ell_layout.specs.Words.{Words}
use Rattle.ell_core.specs.declared.fact.Fact.TheVariants as fact
use Rattle.ell_core.specs.history.Stages.{Stages}
use Rattle.ell_grace.specs.Gone.{HasOuts}
use Rattle.ell_grace.specs.Dead.{NeverComes, IsDead, HasUses}
use Rattle.ell_runs.specs.declared.call.Call.{Call}
use Rattle.ell_runs.specs.declared.view.View.{View}
use Rattle.ell_runs.specs.declared.view.Told.TheVariants.{Info}
use Rattle.ell_runs.specs.Plans.{TablePlan}
use Rattle.ell_runs.specs.Views.{IsTold, Knows, Does}
use Rattle.ell_runs.specs.Calls.{May, word_of}
use Rattle.ell_runs.specs.States.{TableState}
use Rattle.ell_runs.specs.Machines.{HasMachine}
use Rattle.ell_runs.specs.Laws.{machine_of_table}
use Rattle.ell_runs.specs.Starts.{IsReached}
use Rattle.ell_runs.specs.Turns.{Turn, CallIsMade, TableRun}
use Rattle.ell_runs.specs.Touching.{forgets, Touched, AtNode, OfCard, AtRoot, touched_by, KnowsOneKey, KnowsTakenOut}

-- what a call touches was not dead at these words and stages: the node, or the internal node of the card
abbrev pub WasAlive : Words → Stages → Touched → Type 0
WasAlive w stage (AtNode x) = ¬ IsDead w stage x
WasAlive w stage (OfCard c) = ¬ IsDead w stage (internal c)
WasAlive w stage AtRoot = Unit {0}

-- wherever turns have led a table, what its machine uses is sound
abbrev pub TablesHaveUses : Type 0
TablesHaveUses = (plan : TablePlan) (s : TableState) → IsReached plan s
    → (r : HasMachine plan s) × HasUses (machine_of_table plan s r)

-- turns lead on from there, and what was dead is dead
abbrev pub TurnsKeepDead : Type 0
TurnsKeepDead = (plan : TablePlan) (s : TableState) (r : HasMachine plan s) (has : HasUses (machine_of_table plan s r))
    → (turns : List Turn) (s' : TableState) → TableRun plan s turns s'
    → (r' : HasMachine plan s') × (has' : HasUses (machine_of_table plan s' r'))
    × ((x : ℕ) → IsDead r.words has.outs.stages x → IsDead r'.words has'.outs.stages x)

-- From where a pass makes a call by which it forgets, as where it begins an operation or a look, on through any
-- turns of any passes: each step call that it may make touches nothing that was dead in the state in which it made
-- that call.
abbrev pub CallsTouchNothingDead : Type 0
CallsTouchNothingDead = (plan : TablePlan) (s : TableState) → IsReached plan s
    → (seat : ℕ) (c : Call) (begun : TableState) → CallIsMade plan s seat c begun → forgets c ≡ true
    → (r : HasMachine plan s) (has : HasUses (machine_of_table plan s r))
    → (turns : List Turn) (now : TableState) → TableRun plan begun turns now
    → (v : View) → get_elem? now.views seat ≡ some v → (next : Call) → May plan next v
    → WasAlive r.words has.outs.stages (touched_by next)

-- all nodes of a card are dead
abbrev pub IsDeadCard : Words → Stages → ℕ → Type 0
IsDeadCard w stage c = IsDead w stage (internal c) × IsDead w stage (left_leaf c) × IsDead w stage (right_leaf c)

-- so no step call touches a word of a card whose nodes were all dead then
abbrev pub CallsTouchNoDeadCard : Type 0
CallsTouchNoDeadCard = (plan : TablePlan) (s : TableState) → IsReached plan s
    → (seat : ℕ) (c : Call) (begun : TableState) → CallIsMade plan s seat c begun → forgets c ≡ true
    → (r : HasMachine plan s) (has : HasUses (machine_of_table plan s r))
    → (turns : List Turn) (now : TableState) → TableRun plan begun turns now
    → (v : View) → get_elem? now.views seat ≡ some v → (next : Call) → May plan next v
    → (d : ℕ) (f : Field) → word_of next ≡ address d f → ¬ IsDeadCard r.words has.outs.stages d

-- By what a pass knows, a card is a delete's, and has ended: none of its nodes comes into the tree.
abbrev pub KnowsDeleteEnded : View → ℕ → Type 0
KnowsDeleteEnded v c = Knows v (fact.DOver c) ⊎ Knows v (fact.Backed c)

-- By what a pass was told, a card replaces a leaf, and a node of it is not the one that it brings: both of its leaves
-- have one key, and the node is not the right leaf.
pub record KnowsReplaced (v : View) (c x : ℕ) : Type 0 where
  pub same : KnowsOneKey v c
  pub other : x ≢ right_leaf c

-- By what a pass knows, nobody uses a leaf of its own card, which is flagged: the leaf's key is not the operation's.
pub record KnowsUnused (v : View) (c x : ℕ) : Type 0 where
  pub op : Op
  pub key : ℕ
  pub busy : Does v op
  pub holds : v.worker.card ≡ Some c
  pub flagged : v.worker.flagged ≡ true
  pub told : ((x ≡ left_leaf c) × IsTold v (Info c field.LeftLeafKey key))
      ⊎ ((x ≡ right_leaf c) × IsTold v (Info c field.RightLeafKey key))
  pub other : key ≢ key_of op

-- by what a pass knows, a node of a card never comes into the tree
abbrev pub KnowsNeverComes : View → ℕ → ℕ → Type 0
KnowsNeverComes v c x =
    (card x ≡ c) × (KnowsDeleteEnded v c ⊎ (Knows v (fact.IOver c) × (KnowsReplaced v c x ⊎ KnowsUnused v c x)))

-- the card in hand, which is over, has taken a node out of the tree
abbrev pub HasTakenOut : View → ℕ → Type 0
HasTakenOut v x = (c : ℕ) × (v.worker.card ≡ Some c) × KnowsTakenOut v c x

-- such a node never comes, in a flat tree
abbrev pub KnownNeverComes : Type 0
KnownNeverComes = (plan : TablePlan) → plan.flat ≡ true → (s : TableState) (seat : ℕ) (v : View)
    → get_elem? s.views seat ≡ some v → (c x : ℕ) → KnowsNeverComes v c x
    → (r : HasMachine plan s) (has : HasOuts (machine_of_table plan s r)) → NeverComes r.words has.stages x

-- by what a pass knows of a card, a node is dead
abbrev pub KnowsDead : View → ℕ → ℕ → Type 0
KnowsDead v c x = KnowsTakenOut v c x ⊎ KnowsNeverComes v c x

-- such a node is dead
abbrev pub KnownDeadIsDead : Type 0
KnownDeadIsDead = (plan : TablePlan) → plan.flat ≡ true → (s : TableState) (seat : ℕ) (v : View)
    → get_elem? s.views seat ≡ some v → (c x : ℕ) → KnowsDead v c x
    → (r : HasMachine plan s) (has : HasOuts (machine_of_table plan s r)) → IsDead r.words has.stages x

-- passes know it of a node by one card alone
abbrev pub OneCardTells : Type 0
OneCardTells = (plan : TablePlan) → plan.flat ≡ true → (s : TableState) → IsReached plan s → (i j : ℕ) (v v' : View)
    → get_elem? s.views i ≡ some v → get_elem? s.views j ≡ some v'
    → (c d x : ℕ) → KnowsDead v c x → KnowsDead v' d x → c ≡ d
