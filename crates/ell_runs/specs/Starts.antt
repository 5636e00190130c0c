use Rattle.std.specs.Prelude.{◌≡◌, ◌↔◌, ℕ, ◌≤◌, ◌⊎◌, true, false, Option, Some, None, List, [], length, Contains, ◌<◌, ◌∷◌}
use Rattle.std.specs.List.{All}
use Rattle.std.specs.List.Sorted.{IsStrictlyIncreasing}
use Rattle.std.specs.Map.{keys_of}
use Rattle.ell_ops.specs.declared.op.Op.{Op}
use Rattle.ell_ops.specs.KeySet.{set_of}
use Rattle.ell_ops.specs.Contents.{contents_of}
use Rattle.ell_ops.specs.Meaning.{greatest_key, key_of}
use Rattle.ell_layout.specs.Layout.{table_size}
use Rattle.ell_layout.specs.Words.{words_of}
use Rattle.ell_layout.specs.Start.{words_at_start}
use Rattle.ell_core.specs.tree.Tree.{IsTreePair}
use Rattle.ell_core.specs.soundness.Sound.{IsSound}
use Rattle.ell_core.specs.acts.Wins.{InOrder}
use Rattle.ell_runs.specs.declared.call.Call.TheVariants as call
use Rattle.ell_runs.specs.declared.view.Slots.{Slots}
use Rattle.ell_runs.specs.Plans.{TablePlan}
use Rattle.ell_runs.specs.Changes.{first_of}
use Rattle.ell_runs.specs.States.{TableState}
use Rattle.ell_runs.specs.Turns.{Turn, Makes, TableTurns, TableRun}
use Rattle.ell_runs.specs.TurnEffects.{own_words, own_machine, TurnsDo, run_wins}
use Rattle.ell_word.specs.Node.{greatest_card, greatest_number}

-- a key is shared in a table: it is a real key, and the plan shares all but the keys that may have owners
pub record IsSharedIn (plan : TablePlan) (key : ℕ) : Type 0 where
  pub mode : plan.shared ≡ true
  pub real : key ≤ greatest_key
  pub other : set_of plan.keys key ≡ false

-- the most announcements of a table
abbrev pub most_announcements : ℕ
most_announcements = 1000000

-- the cards of a table may come back in these slots: it has at least one announcement, all numbers that there are,
-- words for the cards of the start keys, and a flat tree
pub record MayReuse (plan : TablePlan) (s : Slots) : Type 0 where
  pub some : 1 ≤ s.announcements
  pub few : s.announcements ≤ most_announcements
  pub numbers : plan.last_card ≡ greatest_number
  pub start : length plan.start ≤ s.last
  pub low : s.last ≤ greatest_card
  pub flat : plan.flat ≡ true

-- a table without slots may have words for all cards that it has numbers for
abbrev pub SlotsFit : TablePlan → Option Slots → Type 0
SlotsFit plan None = plan.last_card ≤ greatest_card
SlotsFit plan (Some s) = MayReuse plan s

-- what a table may open with: real keys, ascending; start keys, ascending, each of them or shared; and cards for these,
-- not more than there are numbers for
pub record MayStart (plan : TablePlan) : Type 0 where
  pub ascending : IsStrictlyIncreasing plan.keys
  pub real : All (λ k. k ≤ greatest_key) plan.keys
  pub start_ascending : IsStrictlyIncreasing (keys_of plan.start)
  pub given : All (λ k. (set_of plan.keys k ≡ true) ⊎ IsSharedIn plan k) (keys_of plan.start)
  pub room : length plan.start ≤ plan.last_card
  pub few : length plan.start < greatest_card
  pub limit : plan.last_card ≤ greatest_number
  pub slots : SlotsFit plan plan.slots

-- the words of a table are at its start those of the opening tree over the start keys, flat or not
pub record StartWords (plan : TablePlan) (words : List ℕ) : Type 0 where
  pub size : length words ≡ table_size plan.last_card
  pub are : words_of words ≡ words_at_start plan.flat plan.start

-- a table as it starts: its words make the opening tree, and its one pass owns the plan's keys, the start keys present
pub record Starts (plan : TablePlan) (s : TableState) : Type 0 where
  pub may : MayStart plan
  pub words : StartWords plan s.words
  pub is : s ≡ (record { words = s.words; views = first_of plan ∷ [] })

-- every such plan has a table
pub record StartsSome (plan : TablePlan) : Type 0 where
  pub table : TableState
  pub starts : Starts plan table

abbrev pub TablesStart : Type 0
TablesStart = (plan : TablePlan) → MayStart plan → StartsSome plan

-- the keys of its tree are the start keys, with their values
abbrev pub StartsHaveTheirKeys : Type 0
StartsHaveTheirKeys = (plan : TablePlan) (s : TableState) → Starts plan s → (k value : ℕ)
    → IsTreePair (own_words s) k value ↔ (contents_of plan.start k ≡ Some value)

-- its pass may begin an operation
pub record MayBeginThere (plan : TablePlan) (s : TableState) (op : Op) : Type 0 where
  pub after : TableState
  pub turn : TableTurns plan s (Makes 0 (call.Begin op)) after

-- so it may begin every operation on a key of its own, and on a shared one
abbrev pub FirstPassMayBegin : Type 0
FirstPassMayBegin = (plan : TablePlan) (s : TableState) → Starts plan s → (op : Op) → Contains plan.keys (key_of op)
    ⊎ IsSharedIn plan (key_of op)
    → MayBeginThere plan s op

-- what a run from a start does: the tree of the table's own words has the start pairs first, each turn changes it as
-- turns do, each card wins in order, and where the run leads, those words, with what passes know, are a sound state
pub record RunFromStart (plan : TablePlan) (s : TableState) (turns : List Turn) (s' : TableState)
    (run : TableRun plan s turns s') : Type 0 where
  pub opens : (k value : ℕ) → IsTreePair (own_words s) k value ↔ (contents_of plan.start k ≡ Some value)
  pub turns_do : TurnsDo plan s turns s' run
  pub wins : (c : ℕ) → InOrder (run_wins plan s turns s' run c)
  pub sound : IsSound (own_machine plan.last_card s')

-- so does every run from a start, by any passes in any order
abbrev pub RunsFromStarts : Type 0
RunsFromStarts = (plan : TablePlan) (s : TableState) → Starts plan s → (turns : List Turn) (s' : TableState)
    (run : TableRun plan s turns s') → RunFromStart plan s turns s' run

-- the rule of a table with this plan: it is where turns of its passes have led from its start
pub record IsReached (plan : TablePlan) (s : TableState) : Type 0 where
  pub first : TableState
  pub starts : Starts plan first
  pub turns : List Turn
  pub run : TableRun plan first turns s
