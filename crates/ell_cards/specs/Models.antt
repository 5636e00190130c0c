use Rattle.std.specs.Prelude.{◌≡◌, ◌≢◌, ℕ, ◌+◌, ◌≤◌, Bool, false, Option, Some, None, is_some, min}
use Rattle.atomic_table.specs.Seated.{TableId}
use Rattle.ell_word.specs.Node.{most_cards}
use Rattle.ell_core.specs.state.Machine.{Ledger, ledger_of}
use Rattle.ell_cards.specs.declared.fault.CardFault.{CardFault}
use Rattle.ell_cards.specs.declared.fault.CardFault.TheVariants.{BadCards, NoMemory}
use Rattle.ell_cards.specs.declared.fault.SplitFault.{SplitFault}
use Rattle.ell_cards.specs.declared.fault.SplitFault.TheVariants.{TooManyPasses}
use Rattle.ell_cards.specs.declared.fault.SplitFault.TheVariants as split_fault
use Rattle.ell_runs.specs.declared.view.View.{View}
use Rattle.ell_cards.specs.declared.view.Participant.{Participant}
use Rattle.ell_cards.specs.declared.view.Retired.{Retired}
use Rattle.ell_runs.specs.declared.view.Sight.{Sight}
use Rattle.ell_cards.specs.declared.view.Survey.{Survey}
use Rattle.ell_runs.specs.declared.view.Slots.{Slots}
use Rattle.ell_cards.specs.Retiring.{none_retired}
use Rattle.ell_runs.specs.Sights.{given_sight, no_sight}
use Rattle.ell_runs.specs.Views.{MayPart}
use Rattle.ell_runs.specs.Plans.{TablePlan}
use Rattle.ell_runs.specs.Changes.{first_of}
use Rattle.ell_runs.specs.LookPlaces.{SeesMoreInLook}

-- the last slot: each card lies in one, and where cards do not come back in one of its own
abbrev pub last_slot_of : Option Slots → ℕ → ℕ
last_slot_of None last = last
last_slot_of (Some s) last = s.last

abbrev pub last_slot : TablePlan → ℕ
last_slot plan = last_slot_of plan.slots plan.last_card

-- which table it is, and what it was opened with
pub record TableModel : Type 0 where
  pub id : TableId
  pub plan : TablePlan

-- a pass's safe epoch: whoever is pinned was pinned when the epoch was that at least; where cards come back, whether it
-- is pinned, what it saw last at all announcements, the card whose slot it took last, and what it has retired for that
pub record PassMemory : Type 0 where
  pub safe_epoch : ℕ
  pub is_pinned : Bool
  pub surveyed : Survey
  pub slot : Option ℕ
  pub retired : Retired

-- a pass's table, what is shown of what it knows, its atomic steps, its label, its memory, and the history it knows
pub record PassModel : Type 0 where
  pub table : TableId
  pub view : View
  pub steps : ℕ
  pub label : ℕ
  pub memory : PassMemory
  pub sight : Sight

-- a pass steps on the table that it stepped on, with its label
pub record KeepsItsOwn (old new : PassModel) : Type 0 where
  pub table : new.table ≡ old.table
  pub label : new.label ≡ old.label

-- a pass that has not looked at the announcements has seen nothing: the epoch is never less than 0
abbrev pub no_survey : Survey
no_survey = record { epoch = 0; least = 0 }

-- so it is at first: it is not pinned, has looked at no announcement, and has taken no slot
abbrev pub no_memory : PassMemory
no_memory = record { safe_epoch = 0; is_pinned = false; surveyed = no_survey; slot = None; retired = none_retired }

-- the memory of a pass whose seat knows this of epochs
abbrev pub memory_of : Participant → PassMemory
memory_of p = record {
  safe_epoch = p.safe_epoch;
  is_pinned = is_some p.announced;
  surveyed = p.surveyed;
  slot = p.slot;
  retired = p.retired;
}

-- the same memory, of a pass that is pinned if cards come back, and not pinned if they do not
abbrev pub pinned : Option Slots → PassMemory → PassMemory
pinned slots m = record m { is_pinned = is_some slots }

-- or of one that is not pinned
abbrev pub unpinned : PassMemory → PassMemory
unpinned m = record m { is_pinned = false }

-- the ledger of a pass: each key of its own with whether it is present, and with which value
abbrev pub ledger : PassModel → Ledger
ledger p = ledger_of p.view.worker.ledger

-- a pass owns a key
abbrev pub Owns : PassModel → ℕ → Type 0
Owns p key = ledger p key ≢ None

-- one step more, but no more than 64 bits hold
abbrev pub one_more : ℕ → ℕ
one_more n = min (n + 1) 18446744073709551615

-- so many steps more, but no more than 64 bits hold
abbrev pub some_more : ℕ → ℕ → ℕ
some_more n steps = min (steps + n) 18446744073709551615

-- the pass made one step that it has not counted yet, and knows this now
abbrev pub Sees : PassModel → PassModel → View → Type 0
Sees old new v = new ≡ record old { view = v }

-- or knows more of the history, too
abbrev pub SeesOn : PassModel → PassModel → View → Type 0
SeesOn old new v = new ≡ record old { view = v; sight = new.sight }

-- the pass counted so many steps, and made none
abbrev pub Counts : PassModel → PassModel → ℕ → Type 0
Counts old new n = new ≡ record old { steps = some_more n old.steps }

-- the pass made one step, and knows this now
abbrev pub Steps : PassModel → PassModel → View → Type 0
Steps old new v = new ≡ record old { view = v; steps = one_more old.steps }

-- or knows more of the history, too
abbrev pub StepsOn : PassModel → PassModel → View → Type 0
StepsOn old new v = new ≡ record old { view = v; steps = one_more old.steps; sight = new.sight }

-- the pass made one step by which it began an operation, and knows this now, and more of the history; if cards come
-- back, it is pinned
abbrev pub BeginsBy : Option Slots → PassModel → PassModel → View → Type 0
BeginsBy slots old new v =
    new ≡ record old { view = v; steps = one_more old.steps; memory = pinned slots old.memory; sight = new.sight }

-- or by which it began a look, and did not count the step: it knows more of the history
abbrev pub LooksBy : Option Slots → PassModel → PassModel → View → Type 0
LooksBy slots old new v = new ≡ record old { view = v; memory = pinned slots old.memory; sight = new.sight }

-- or by which it ended what it had begun: it is not pinned
abbrev pub EndsBy : PassModel → PassModel → View → Type 0
EndsBy old new v = new ≡ record old { view = v; steps = one_more old.steps; memory = unpinned old.memory }

-- and by which it answered an operation: it knows more of the history
abbrev pub AnswersBy : PassModel → PassModel → View → Type 0
AnswersBy old new v =
    new ≡ record old { view = v; steps = one_more old.steps; memory = unpinned old.memory; sight = new.sight }

-- all that contracts see of the pass is as it was, but its safe epoch and what it saw at all announcements
abbrev pub LooksAround : PassModel → PassModel → Type 0
LooksAround old new =
    new ≡ record old {
      memory = record (old.memory) { safe_epoch = new.memory.safe_epoch; surveyed = new.memory.surveyed };
    }

-- the pass came from another one by a step that both count, and knows this; it is not pinned, has looked at no
-- announcement yet, has taken no slot, and has seen of the history what the other one has
abbrev pub StepsOut : PassModel → PassModel → View → Type 0
StepsOut old new v =
    new ≡ record {
      table = old.table;
      view = v;
      steps = one_more old.steps;
      label = old.label;
      memory = no_memory;
      sight = given_sight old.sight;
    }

-- when a pass is not parted: for its share exactly where that may not be; or, where cards come back, for want of an
-- announcement
abbrev pub SplitRefuses : Option Slots → View → SplitFault → Type 0
SplitRefuses None v TooManyPasses = ¬ MayPart v
SplitRefuses (Some s) v TooManyPasses = Unit {0}
SplitRefuses _ v split_fault.NoMemory = MayPart v

-- this many cards may be asked for
abbrev pub IsCardCount : ℕ → Type 0
IsCardCount cards = (1 ≤ cards) × (cards ≤ most_cards)

-- when a table of this many cards is refused: for its cards exactly if it may not have this many
abbrev pub RefusesCards : ℕ → CardFault → Type 0
RefusesCards cards BadCards = ¬ IsCardCount cards
RefusesCards cards NoMemory = IsCardCount cards

-- a table is opened by a plan: it has the plan, and its one pass knows what a first pass does, has made no step, is not
-- pinned, has looked at no announcement, and has seen nothing of the history, which is empty
pub record OpensBy (plan : TablePlan) (made : TableModel × PassModel) : Type 0 where
  pub table : made.0.plan ≡ plan
  pub pass : made.1
      ≡ record {
        table = made.0.id;
        view = first_of plan;
        steps = 0;
        label = 0;
        memory = no_memory;
        sight = no_sight;
      }

-- a pass made one step of a look that it has not counted yet, knows this now, and has seen more of the history
pub record SeesInLook (old new : PassModel) (v : View) : Type 0 where
  pub step : SeesOn old new v
  pub sees : SeesMoreInLook old.sight new.sight
