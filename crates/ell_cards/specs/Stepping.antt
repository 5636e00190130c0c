use Rattle.std.specs.Prelude.{◌≡◌, ◌≢◌, ℕ, Bool, Option, None, Some, List, [], ◌-◌}
use mathlib.Core.Option.{some}
use lib.ListN.{get_elem?}
use Rattle.std.specs.List.Sorted.{IsStrictlyIncreasing}
use Rattle.atomic_table.specs.Table.{Allows}
use Rattle.ell_layout.specs.declared.field.Field.{Field}
use Rattle.ell_runs.specs.declared.call.Call.{Call}
use Rattle.ell_runs.specs.declared.call.Call.TheVariants as call
use Rattle.ell_cards.specs.declared.view.Known.{Known}
use Rattle.ell_cards.specs.declared.view.Participant.{Participant}
use Rattle.ell_runs.specs.declared.view.Slots.{Slots}
use Rattle.ell_runs.specs.declared.view.View.{View}
use Rattle.ell_cards.specs.Models.{Steps, pinned, KeepsItsOwn, last_slot, PassModel, one_more}
use Rattle.ell_runs.specs.Plans.{flat_from, TablePlan}
use Rattle.ell_runs.specs.Views.{IsFree, MayPart, given_share}
use Rattle.ell_runs.specs.Changes.{ledger_keys}
use Rattle.ell_runs.specs.Depths.{deepest, IsShallow}
use Rattle.ell_runs.specs.Naming.{IsNamed}
use Rattle.ell_cards.specs.InSlots.{IsPlaced}
use Rattle.ell_runs.specs.Calls.{Exchange, atomic_of, after, May, Tells}
use Rattle.ell_cards.specs.Apart.{IsApart}
use Rattle.ell_runs.specs.Seeing.{Marks}
use Rattle.ell_cards.specs.Shown.{cut_word, cut_by, shown, shown_call, CanBeShown}
use Rattle.ell_runs.specs.States.{TableState}
use Rattle.ell_cards.specs.LettingGo.{MayLetGo}
use Rattle.ell_cards.specs.Refinement.{HasStoredAll, MayInMemory}
use Rattle.ell_runs.specs.Turns.{found_by, view_after}
use Rattle.ell_runs.specs.Starts.{IsReached}
use Rattle.ell_runs.specs.Looking.{KeysAreFixed, ReadsItsOwn, MissesItsOwn}
use Rattle.ell_cards.specs.declared.share.Share.{Share}
use Rattle.ell_cards.specs.Whole.{IsWhole}
use Rattle.ell_cards.specs.Inside.{HasShare}
use Rattle.ell_runs.specs.Views.{SameShare}

-- Wherever turns have led the table, and whatever a pass knows of which this is shown, and which tells nodes apart: each
-- call of which that one is shown, if the pass may make it, finds a word, and this holds of what is shown of the word
-- and of what the pass knows after the call.
abbrev pub MayTell : TablePlan → Call → View → (ℕ → View → Type 0) → Type 0
MayTell plan c v then =
    (s : TableState) → IsReached plan s → (id : ℕ) (w : View) → get_elem? s.views id ≡ some w → shown w ≡ v
    → IsApart plan w → (whole : Call) → shown_call whole ≡ c → May plan whole w → CanBeShown whole (found_by s whole)
    → IsPlaced (last_slot plan) (view_after s w whole) → IsApart plan (view_after s w whole)
    → then (cut_by whole (found_by s whole)) (shown (view_after s w whole))

-- a call exchanges an expected word for another one, of which a word of 64 bits has this: where cards do not come back,
-- all of it
pub record Exchanges (plan : TablePlan) (c : Call) (expected value : ℕ) : Type 0 where
  pub whole : ℕ
  pub is : atomic_of c ≡ Exchange expected whole
  pub cut : value ≡ cut_word whole
  pub all : plan.slots ≡ None → value ≡ whole

-- a step call that begins no operation and no look
abbrev pub IsQuiet : Call → Type 0
IsQuiet (call.Begin op) = ⊥
IsQuiet call.Look = ⊥
IsQuiet _ = Unit {0}

-- whatever the table is when a word of its epochs becomes another one, this holds of the word found and of what the
-- pass knows of epochs after, and what it knows of the tree and of the history is as it was
abbrev pub MayGoOn : TablePlan → Known → ℕ → (ℕ → ℕ) → (ℕ → Participant → Type 0) → Type 0
MayGoOn plan k i f then =
    (id : ℕ)
    → Allows (IsWhole plan) 0 id (k, []) i f (λ n me. then n me.0.participant × (me.0.tree ≡ k.tree) × (me.1 ≡ [])
    × (me.0.sight ≡ k.sight))

-- a pass may be split: it has nothing in hand, and may be parted
pub record MaySplit (v : View) : Type 0 where
  pub free : IsFree v
  pub may : MayPart v

-- a pass with these keys may know this, where a pass of its table knew that
pub record MayHave (old : View) (keys : List ℕ) (v : View) : Type 0 where
  pub owned : keys ≡ ledger_keys v.worker.ledger
  pub ascending : IsStrictlyIncreasing keys
  pub named : (last : ℕ) → IsNamed last old → IsNamed last v
  pub placed : (last : ℕ) → IsPlaced last old → IsPlaced last v

-- the shares of two parts are those that the code of a pass has after a split, whatever it has before
abbrev pub PartsShare : View → View → View → Type 0
PartsShare old left right = (share : Share) → HasShare share old
    → HasShare (record { units = share.units - given_share share.units; counts = share.counts }) left
    × HasShare (record { units = given_share share.units; counts = share.counts }) right

-- what a pass names is in a table, and lies in its slots
abbrev pub IsInside : TablePlan → View → Type 0
IsInside plan v = IsNamed plan.last_card v × IsPlaced (last_slot plan) v

-- a pass has taken the slot of a card, and has stored each word of it that is said
abbrev pub IsWholeIn : PassModel → ℕ → (Field → Bool) → Type 0
IsWholeIn p c said = (p.memory.slot ≡ Some c) × HasStoredAll p.view said

-- a pass may store the words of a card: where cards lie in slots, it has taken the card's one last
abbrev pub HasSlotOf : TablePlan → ℕ → PassModel → Type 0
HasSlotOf plan c p = plan.slots ≢ None → p.memory.slot ≡ Some c

-- a call asks this of the slots, if the table's cards come back
abbrev pub MayInTable : TablePlan → PassModel → Call → Type 0
MayInTable plan p c = (s : Slots) → plan.slots ≡ Some s → MayInMemory s p.memory.slot p.memory.retired p.view c

-- so it does of one by which the pass lets its card in hand go
abbrev pub LetsGo : TablePlan → PassModel → Type 0
LetsGo plan p = (s : Slots) → plan.slots ≡ Some s → MayLetGo s p.memory.slot p.memory.retired p.view

-- what a step tells says that the pass owns the keys and has the share that it did, and names what is in the table
abbrev pub KeepsPass : TablePlan → View → (ℕ → View → Type 0) → Type 0
KeepsPass plan v then =
    (n : ℕ) (w : View) → then n w → (ledger_keys w.worker.ledger ≡ ledger_keys v.worker.ledger) × SameShare v w
    × IsInside plan w

-- a pass made one step that it has not counted yet: its table, its label and its memory are as they were, and so is
-- what it knows of the history
pub record SeesBy (old new : PassModel) : Type 0 where
  pub own : KeepsItsOwn old new
  pub steps : new.steps ≡ old.steps
  pub memory : new.memory ≡ old.memory
  pub sight : new.sight ≡ old.sight

-- so it is after one by which it may know more of the history, but for that
pub record SeesOnBy (old new : PassModel) : Type 0 where
  pub own : KeepsItsOwn old new
  pub steps : new.steps ≡ old.steps
  pub memory : new.memory ≡ old.memory

-- and after one that begins an operation or a look, but that it is pinned if cards come back, and knows more of the
-- history if it begins an operation
pub record PinsBy (slots : Option Slots) (c : Call) (old new : PassModel) : Type 0 where
  pub own : KeepsItsOwn old new
  pub steps : new.steps ≡ old.steps
  pub memory : new.memory ≡ pinned slots old.memory
  pub marks : Marks c old.view old.sight new.sight

-- the pass made one step that it has not counted yet, by a call that begins an operation or a look, and knows this now
abbrev pub Pins : Option Slots → PassModel → PassModel → View → Type 0
Pins slots old new v = new ≡ record old { view = v; memory = pinned slots old.memory; sight = new.sight }

-- a pass made one step: its table, its label and its memory are as they were, and so is what it knows of the history
pub record StepsBy (old new : PassModel) : Type 0 where
  pub own : KeepsItsOwn old new
  pub steps : new.steps ≡ one_more old.steps
  pub memory : new.memory ≡ old.memory
  pub sight : new.sight ≡ old.sight

-- a pass made one step by a call, and knows what the call tells by some word that it found
abbrev pub StepsBySome : PassModel → PassModel → Call → Type 0
StepsBySome old new c = (n : ℕ) × Steps old new (after c n old.view)

-- what a step call that found this word leaves of a pass: what it knows is as the call says, and what the call
-- tells is so; what a look has found of its own keys is what its ledger has; it was told no two keys of one node; the
-- pass owns the keys and has the share that it did, names what is in its table and what may be claimed there, and was
-- told no greater depth of a node than a node of the table may have
pub record IsTaken (plan : TablePlan) (c : Call) (v : View) (n : ℕ) (w : View) : Type 0 where
  pub view : w ≡ after c n v
  pub tells : Tells plan c v n
  pub own : ReadsItsOwn w
  pub missed : MissesItsOwn (flat_from plan) w
  pub fixed : KeysAreFixed w
  pub keys : ledger_keys w.worker.ledger ≡ ledger_keys v.worker.ledger
  pub share : SameShare v w
  pub named : IsNamed plan.last_card w
  pub inside : IsPlaced (last_slot plan) w
  pub shallow : (x : ℕ) → IsShallow (deepest plan) w x
