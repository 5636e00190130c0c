use Rattle.std.specs.Prelude.{◌≡◌, ◌≢◌, ℕ, ◌+◌, ◌<◌, ◌≤◌, ◌⊎◌, Option, Some, None, List, [], ◌∷◌, suc, take, drop, true}
use mathlib.Core.Option.{some}
use lib.ListN.{get_elem?}
use Rattle.ell_block.specs.Blocks.{InBlockOf}
use Rattle.ell_word.specs.Node.{IsInternal}
use Rattle.ell_layout.specs.Words.{Words, IsLeaf, has_block}
use Rattle.ell_core.specs.state.Machine.{ledger_of}
use Rattle.ell_core.specs.tree.Tree.{IsTreeKey, IsTreePair}
use Rattle.ell_core.specs.statements.Effects.{contents_in}
use Rattle.ell_runs.specs.declared.call.Call.{Call}
use Rattle.ell_runs.specs.declared.call.Call.TheVariants as call
use Rattle.ell_runs.specs.declared.view.Told.TheVariants.{Key, Value}
use Rattle.ell_runs.specs.declared.view.View.{View}
use Rattle.ell_runs.specs.Plans.{TablePlan, flat_from}
use Rattle.ell_runs.specs.Views.{IsTold, HasCome, HasComeWhole}
use Rattle.ell_runs.specs.Guards.{TellsOf}
use Rattle.ell_runs.specs.States.{TableState}
use Rattle.ell_runs.specs.Turns.{Turn, Makes, Splits, Joins, CallIsMade, TableRun}
use Rattle.ell_runs.specs.TurnEffects.{own_words}
use Rattle.ell_runs.specs.Starts.{Starts, IsReached}

-- a state of a run of a table, its first and its last among them: some first turns lead to it, and the others from it
-- to the end
pub record IsAmid (plan : TablePlan) (s : TableState) (turns : List Turn) (s' state : TableState) : Type 0 where
  pub first : ℕ
  pub before : TableRun plan s (take first turns) state
  pub after : TableRun plan state (drop first turns) s'

-- the tree of these words has a key with this value, or it has the key not at all
unfoldable pub HasThere : ℕ → Option ℕ → Words → Type 0
HasThere key (Some value) w = IsTreePair w key value
HasThere key None w = ¬ IsTreeKey w key

-- of the keys from low on and below high the tree of these words has this one with its value and no other, or none
unfoldable pub HasBetween : ℕ → ℕ → Option (ℕ × ℕ) → Words → Type 0
HasBetween low high None w = (key : ℕ) → low ≤ key → key < high → ¬ IsTreeKey w key
HasBetween low high (Some pair) w = (low ≤ pair.0) × (pair.0 < high) × IsTreePair w pair.0 pair.1
    × ((key : ℕ) → low ≤ key → key < high → pair.0 ≢ key → ¬ IsTreeKey w key)

-- this was so of the table's own words in ONE state of a run
pub record WasSo (plan : TablePlan) (s : TableState) (turns : List Turn) (s' : TableState) (what : Words → Type 0)
    : Type 0 where
  pub state : TableState
  pub amid : IsAmid plan s turns s' state
  pub so : what (own_words state)

-- what a pass has found of a key by its look: the look has come to a leaf by the key, maybe with others, and the pass
-- was told the leaf's key and, if that is this key, its value
pub record HasFound (v : View) (key : ℕ) (there : Option ℕ) : Type 0 where
  pub leaf : ℕ
  pub leaf_key : ℕ
  pub comes : HasCome v leaf key (key + 1)
  pub outer : IsLeaf leaf
  pub told : IsTold v (Key leaf leaf_key)
  pub tells : TellsOf v leaf leaf_key key there

-- a step call that begins neither a look nor an operation, and ends no look
abbrev pub BeginsNothing : Call → Type 0
BeginsNothing call.Look = ⊥
BeginsNothing call.Rest = ⊥
BeginsNothing (call.Begin op) = ⊥
BeginsNothing _ = Unit {0}

-- in these turns the pass in a seat makes no other, and is not split or joined
abbrev pub LooksOn : ℕ → List Turn → Type 0
LooksOn seat [] = Unit {0}
LooksOn seat (Makes other c ∷ ts) = (other ≡ seat → BeginsNothing c) × LooksOn seat ts
LooksOn seat (Splits other left ∷ ts) = (other ≢ seat) × LooksOn seat ts
LooksOn seat (Joins one other ∷ ts) = (one ≢ seat) × (other ≢ seat) × LooksOn seat ts

-- the last look of the pass in a seat began here in a run: the pass made its call, and has neither begun anything since
-- nor ended the look
pub record Began (plan : TablePlan) (s : TableState) (turns : List Turn) (s' : TableState) (seat : ℕ) : Type 0 where
  pub first : ℕ
  pub from : TableState
  pub to : TableState
  pub at : get_elem? turns first ≡ some (Makes seat call.Look)
  pub before : TableRun plan s (take first turns) from
  pub call : CallIsMade plan from seat call.Look to
  pub after : TableRun plan to (drop (suc first) turns) s'
  pub on : LooksOn seat (drop (suc first) turns)

-- and this was so in one state of the run since
pub record FoundInRun (plan : TablePlan) (s : TableState) (turns : List Turn) (s' : TableState) (seat : ℕ)
    (what : Words → Type 0) : Type 0 where
  pub began : Began plan s turns s' seat
  pub so : WasSo plan began.to (drop (suc began.first) turns) s' what

-- the block of an internal node with this key, if the node has one, lacks all keys of a stretch
abbrev pub LacksBetween : ℕ → ℕ → ℕ → ℕ → ℕ → Type 0
LacksBetween from x key low high =
    IsInternal x × (has_block from x ≡ true) × ((k : ℕ) → low ≤ k → k < high → ¬ InBlockOf key k)

-- what a pass was told of a node, with this key, about a stretch of keys, in a tree that is flat from a card on: it
-- is a leaf whose key is one of them, with this value, or none of them; or an internal node whose block lacks them
-- all
abbrev pub TellsBetween : ℕ → View → ℕ → ℕ → ℕ → ℕ → Option (ℕ × ℕ) → Type 0
TellsBetween from v x key low high None =
    (IsLeaf x × ((key < low) ⊎ (high ≤ key))) ⊎ LacksBetween from x key low high
TellsBetween from v x key low high (Some pair) =
    IsLeaf x × (key ≡ pair.0) × (low ≤ pair.0) × (pair.0 < high) × IsTold v (Value x pair.1)

-- what a pass has found of a stretch of keys by its look: the look has come to a node by all of them as one, and the
-- pass was told this of it
pub record HasFoundBetween (from : ℕ) (v : View) (low high : ℕ) (there : Option (ℕ × ℕ)) : Type 0 where
  pub node : ℕ
  pub node_key : ℕ
  pub comes : HasComeWhole v node low high
  pub told : IsTold v (Key node node_key)
  pub tells : TellsBetween from v node node_key low high there

-- two looks, by one pass or by two, of which the second began after the first had come to its end: what the first has
-- found was so before the second began, and what the second has found was so since
abbrev pub ComeInOrder : {A : Type 0} → (TablePlan → View → A → Type 0) → (A → Words → Type 0) → Type 0
ComeInOrder {A = A} finds what = (plan : TablePlan) (s : TableState) → Starts plan s
    → (turns : List Turn) (ended : TableState) → TableRun plan s turns ended
    → (seat : ℕ) (v : View) → get_elem? ended.views seat ≡ some v → (first : A) → finds plan v first
    → (other : ℕ) (begun : TableState) → CallIsMade plan ended other call.Look begun
    → (more : List Turn) (s' : TableState) → TableRun plan begun more s' → LooksOn other more
    → (w : View) → get_elem? s'.views other ≡ some w → (second : A) → finds plan w second
    → FoundInRun plan s turns ended seat (what first) × WasSo plan begun more s' (what second)

-- so it is of two looks of one key or of two
abbrev pub LooksAreInOrder : Type 0
LooksAreInOrder = ComeInOrder {A = ℕ × Option ℕ} (λ plan v a. HasFound v a.0 a.1) (λ a. HasThere a.0 a.1)

-- and of one stretch of keys or of two
abbrev pub StretchesAreInOrder : Type 0
StretchesAreInOrder =
    ComeInOrder {A = ℕ × ℕ × Option (ℕ × ℕ)} (λ plan v a. HasFoundBetween (flat_from plan) v a.0 a.1 a.2) (λ a. HasBetween a.0 a.1 a.2)

-- what a pass has found by a look of a key of its own is what its ledger has: it reads its own changes
abbrev pub ReadsItsOwn : View → Type 0
ReadsItsOwn v = (key : ℕ) (there : Option ℕ) → HasFound v key there → ledger_of v.worker.ledger key ≢ None
    → there ≡ contents_in (ledger_of v.worker.ledger) key

-- what a pass has found missing by its look, in a tree that is flat from a card on: the look has come by the key, maybe
-- with others, to an internal node whose block lacks it
pub record HasMissed (from : ℕ) (v : View) (key : ℕ) : Type 0 where
  pub node : ℕ
  pub node_key : ℕ
  pub comes : HasCome v node key (key + 1)
  pub told : IsTold v (Key node node_key)
  pub lacks : LacksBetween from node node_key key (key + 1)

-- a key of its own that a pass has so found missing is one that its ledger has absent
abbrev pub MissesItsOwn : ℕ → View → Type 0
MissesItsOwn from v = (key : ℕ) → HasMissed from v key → ledger_of v.worker.ledger key ≢ None
    → None ≡ contents_in (ledger_of v.worker.ledger) key

-- so does each pass, wherever turns have led a table
abbrev pub LooksReadTheirOwn : Type 0
LooksReadTheirOwn = (plan : TablePlan) (s : TableState) → IsReached plan s → (seat : ℕ) (v : View)
    → get_elem? s.views seat ≡ some v → ReadsItsOwn v × MissesItsOwn (flat_from plan) v

-- a pass was told no two keys of one node: the key of a node never changes
abbrev pub KeysAreFixed : View → Type 0
KeysAreFixed v = (node key other : ℕ) → IsTold v (Key node key) → IsTold v (Key node other) → key ≡ other
