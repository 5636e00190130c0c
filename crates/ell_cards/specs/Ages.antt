use Rattle.std.specs.Prelude.{◌≡◌, ◌≢◌, ℕ, ◌+◌, ◌*◌, ◌%◌, ◌<◌, ◌≤◌, ◌⊎◌, Bool, true, Some, List, slice_index}
use mathlib.Core.Option.{some}
use lib.ListN.{get_elem?}
use Rattle.ell_word.specs.Node.{card}
use Rattle.ell_grace.specs.Dead.{IsDead, HasUses}
use Rattle.ell_layout.specs.Words.{Words}
use Rattle.ell_runs.specs.declared.call.Call.{Call}
use Rattle.ell_cards.specs.declared.view.Known.{Known}
use Rattle.ell_cards.specs.declared.view.Retired.{Retired}
use Rattle.ell_cards.specs.declared.view.SlotRead.{SlotRead}
use Rattle.ell_runs.specs.declared.view.Slots.{Slots}
use Rattle.ell_runs.specs.declared.view.View.{View}
use Rattle.ell_runs.specs.Discarded.{IsDiscarded}
use Rattle.ell_runs.specs.Dead.{KnowsDead}
use Rattle.ell_runs.specs.Laws.{machine_of_table}
use Rattle.ell_runs.specs.Machines.{HasMachine}
use Rattle.ell_runs.specs.Plans.{TablePlan}
use Rattle.ell_cards.specs.Epochs.{WholeState, LieInSlots, EpochsAreSound, slot_word}
use Rattle.ell_runs.specs.Touching.{IsAtRest}
use Rattle.ell_cards.specs.CardNodes.{has_node}
use Rattle.ell_cards.specs.SlotWords.{card_by, is_retired, slot_of}
use Rattle.ell_runs.specs.Starts.{IsReached}
use Rattle.ell_runs.specs.States.{TableState}
use Rattle.ell_cards.specs.Refinement.{Refines}
use Rattle.ell_runs.specs.Touching.{forgets}
use Rattle.ell_runs.specs.Turns.{Turn, CallIsMade, TableRun}

-- A node is out: it is dead, or its card was discarded, or no card of the table has its number.
pub data IsOut (plan : TablePlan) (tree : TableState) (machine : HasMachine plan tree)
    (uses : HasUses (machine_of_table plan tree machine)) (x : ℕ) : Type 0 where
  is_dead : IsDead machine.words uses.outs.stages x → IsOut plan tree machine uses x
  is_discarded : IsDiscarded machine.stages tree.views (card x) → IsOut plan tree machine uses x
  is_beyond : plan.last_card < card x → IsOut plan tree machine uses x

-- all three nodes of these cards are out in a state of a table's tree, by the stages of its machine
pub record AreDead (plan : TablePlan) (tree : TableState) (dead : ℕ → Bool) : Type 0 where
  pub machine : HasMachine plan tree
  pub uses : HasUses (machine_of_table plan tree machine)
  pub same : uses.outs.stages ≡ machine.stages
  pub each : (c k : ℕ) → k < 3 → dead c ≡ true → IsOut plan tree machine uses (4 * c + k)

-- the pass in a seat made a call by which it forgot what it was told, when these cards were dead or discarded; turns
-- have led the tree here since
pub record ForgotWhen (plan : TablePlan) (tree : TableState) (seat : ℕ) (dead : ℕ → Bool) : Type 0 where
  pub from : TableState
  pub reached : IsReached plan from
  pub were : AreDead plan from dead
  pub call : Call
  pub begun : TableState
  pub made : CallIsMade plan from seat call begun
  pub anew : forgets call ≡ true
  pub turns : List Turn
  pub run : TableRun plan begun turns tree

-- If a card lies in its slot, and the slot is in use, this one of its nodes is retired by the slot's word; and so it is
-- of a node.
abbrev pub RetiresThere : Slots → List ℕ → (ℕ → ℕ) → ℕ → ℕ → Type 0
RetiresThere s words lie c i =
    slot_of c ≤ s.last → lie (slot_of c) ≡ c → slice_index words (slot_word s (slot_of c)) % 8 ≢ 0
    → is_retired (slice_index words (slot_word s (slot_of c))) i ≡ true

abbrev pub IsRetiredThere : Slots → List ℕ → (ℕ → ℕ) → ℕ → Type 0
IsRetiredThere s words lie x = RetiresThere s words lie (card x) (x % 4)

-- What the epochs of a table take for dead is so in its tree, and what was dead when a pass was pinned is dead still:
-- cards of which each node is dead, or which were discarded. Each pass that is pinned is at rest, or it has forgotten
-- what it was told since that was dead. The nodes that are retired by a slot's word are out, and so are those that were
-- retired by a word of a slot in use which a pass has read; and they are retired there still. And the card whose flag a
-- pass lost last was discarded.
pub record AgesAreSound (plan : TablePlan) (s : Slots) (tree : TableState) (t : WholeState) (lie : ℕ → ℕ)
    (dead : ℕ → Bool) (was_dead : ℕ → ℕ → Bool) : Type 0 where
  pub now : AreDead plan tree dead
  pub still : (q c : ℕ) → was_dead q c ≡ true → dead c ≡ true
  pub since : (seat q a : ℕ) (k : Known) → get_elem? t.views seat ≡ some k → k.participant.announcement ≡ Some q
      → k.participant.announced ≡ Some a → IsAtRest k.tree ⊎ ForgotWhen plan tree seat (was_dead q)
  pub retired_out : (slot k : ℕ) → slot ≤ s.last → is_retired (slice_index t.words (slot_word s slot)) k ≡ true
      → IsOut plan tree now.machine now.uses (4 * lie slot + k)
  pub read : (seat : ℕ) (k : Known) (r : SlotRead) → get_elem? t.views seat ≡ some k → k.participant.read ≡ Some r
      → r.word % 8 ≢ 0 → (i : ℕ) → is_retired r.word i ≡ true
      → IsOut plan tree now.machine now.uses (4 * card_by r.slot r.word + i)
      × IsRetiredThere s t.words lie (4 * card_by r.slot r.word + i)
  pub lost : (seat c : ℕ) (k : Known) → get_elem? t.views seat ≡ some k → k.participant.lost ≡ Some c
      → IsDiscarded now.machine.stages tree.views c

-- What a pass has retired of the nodes that a card made dead: the parent and the leaf that it took out, and its own
-- ones that never come. Of each this is so.
pub record AreRetired (w : Words) (c : ℕ) (retired : Retired) (P : ℕ → Type 0) : Type 0 where
  pub parent : retired.parent ≡ true → P (w.p c)
  pub leaf : retired.leaf ≡ true → P (w.l c)
  pub own : (i : ℕ) → has_node retired.own i ≡ true → P (4 * c + i)

-- What each pass has retired for its card in hand, whose slot it has taken, is out, and is retired still.
abbrev pub RetiredStaysRetired : (plan : TablePlan) (s : Slots) (tree : TableState) (t : WholeState)
    (machine : HasMachine plan tree) → HasUses (machine_of_table plan tree machine) → (ℕ → ℕ) → Type 0
RetiredStaysRetired plan s tree t machine uses lie =
    (seat c : ℕ) (k : Known) → get_elem? t.views seat ≡ some k → k.participant.slot ≡ Some c
    → k.tree.worker.card ≡ Some c
    → AreRetired machine.words c k.participant.retired
    (λ x. IsOut plan tree machine uses x × IsRetiredThere s t.words lie x)

-- The epochs of a table are sound, by which cards lie in its slots, which are dead in its tree, what the epoch was when
-- each pass was pinned, and which were dead then; its memory refines its tree; and what passes have retired for their
-- cards stays retired.
pub record HasEpochs (plan : TablePlan) (s : Slots) (tree : TableState) (t : WholeState) : Type 0 where
  pub lie : ℕ → ℕ
  pub dead : ℕ → Bool
  pub began : ℕ → ℕ
  pub was_dead : ℕ → ℕ → Bool
  pub lies : LieInSlots s t.words lie
  pub epochs : EpochsAreSound s t lie dead began was_dead
  pub ages : AgesAreSound plan s tree t lie dead was_dead
  pub refines : Refines s tree t ages.now.machine.stages lie dead was_dead
  pub retired : RetiredStaysRetired plan s tree t ages.now.machine ages.now.uses lie
  pub flat : plan.flat ≡ true

-- by what a pass knows of some card, a node is dead
abbrev pub KnowsDeadNode : View → ℕ → Type 0
KnowsDeadNode v x = (c : ℕ) × KnowsDead v c x

-- By what a pass knows, all three nodes of a card are dead: each is retired in the word of the card's slot, which it
-- has read when the slot was in use, or it knows it of the node itself.
pub record KnowsDeadCard (k : Known) (c : ℕ) : Type 0 where
  pub read : SlotRead
  pub has : k.participant.read ≡ Some read
  pub used : read.word % 8 ≢ 0
  pub lies : card_by read.slot read.word ≡ c
  pub each : (i : ℕ) → i < 3 → (is_retired read.word i ≡ true) ⊎ KnowsDeadNode k.tree (4 * c + i)

-- So a pass may read the epoch for a card as one that is to be set free: it knows its nodes dead, or it is the card
-- whose flag the pass lost last.
abbrev pub MayGetRetireEpoch : Known → ℕ → Type 0
MayGetRetireEpoch k c = KnowsDeadCard k c ⊎ (k.participant.lost ≡ Some c)
