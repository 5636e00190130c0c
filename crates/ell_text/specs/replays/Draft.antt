use Rattle.std.specs.Prelude.{ℕ, ◌+◌, ◌<◌, ◌≤◌, List, [], ◌∷◌, ◌++◌, length, All, Option, None, Some, IfSome, Result, Ok, Err}
use Rattle.ell_ops.specs.Meaning.{greatest_key, most_workers}
use Rattle.ell_core.specs.declared.event.Event.{Event}
use Rattle.ell_text.specs.declared.replay_line.Place.{Place}
use Rattle.ell_text.specs.declared.replay_line.Place.TheVariants as at
use Rattle.ell_text.specs.declared.replay_line.ReplayLineFault.{ReplayLineFault}
use Rattle.ell_text.specs.declared.replay_line.Said.{Said}
use Rattle.ell_text.specs.declared.replay_line.Said.TheVariants as says
use Rattle.ell_text.specs.declared.replay.Draft.{Draft}
use Rattle.ell_text.specs.declared.replay.ReplayFault.{ReplayFault}
use Rattle.ell_text.specs.Limits.{most_lines}
use Rattle.ell_word.specs.Node.{most_cards}
use Rattle.ell_text.specs.replays.ReplayLine.{replay_line_at}
use Rattle.ell_text.specs.replays.Script.{ScriptValue, place_behind, replay_fault_of, script_from}

-- The parts of a script that the lines so far say.
pub record DraftValue : Type 0 where
  pub workers : Option ℕ
  pub cards : Option ℕ
  pub owned : List (ℕ × ℕ)
  pub events : List Event

-- what a draft is, its lists without their places in memory
abbrev pub draft_value : {A : Type 0} → Draft A → DraftValue
draft_value d = record { workers = d.workers; cards = d.cards; owned = d.owned.items; events = d.events.items }

-- before the first line
abbrev pub no_draft : DraftValue
no_draft = record { workers = None; cards = None; owned = []; events = [] }

-- the place of the next line, by the two heads so far and the events
abbrev pub place_of : Option ℕ → Option ℕ → List Event → Place
place_of None cards events = at.Workers
place_of (Some workers) None events = at.Cards
place_of (Some workers) (Some cards) events = place_behind events

-- the place of the next line
abbrev pub place_in_draft : DraftValue → Place
place_in_draft d = place_of d.workers d.cards d.events

-- how many entries and events there are
abbrev pub count_in_draft : DraftValue → ℕ
count_in_draft d = length d.owned + length d.events

-- the draft with what one more line says
abbrev pub with_said : DraftValue → Said → DraftValue
with_said d (says.Workers count) = record d { workers = Some count }
with_said d (says.Cards count) = record d { cards = Some count }
with_said d (says.Own worker key) = record d { owned = d.owned ++ (worker, key) ∷ [] }
with_said d (says.Event event) = record d { events = d.events ++ event ∷ [] }

-- the draft with one more line, which may say nothing
abbrev pub with_line : DraftValue → Result (Option Said) ReplayLineFault → DraftValue
with_line d (Ok (Some said)) = with_said d said
with_line d (Ok None) = d
with_line d (Err fault) = d

-- what a line says at the draft's place
abbrev pub next_line : DraftValue → List ℕ → Result (Option Said) ReplayLineFault
next_line d line = replay_line_at (place_in_draft d) line

-- the fault of the line of this number behind the draft
abbrev pub next_fault : ℕ → DraftValue → List ℕ → Option ReplayFault
next_fault number d line = replay_fault_of number (count_in_draft d) (next_line d line)

-- the script, where both heads are there
abbrev pub finished : DraftValue → Option ScriptValue
finished d = script_from d.workers d.cards d.owned d.events

-- the numbers of a script are in their ranges
pub record ScriptFits (s : ScriptValue) : Type 0 where
  pub workers : (1 ≤ s.workers) × (s.workers ≤ most_workers)
  pub cards : (1 ≤ s.cards) × (s.cards ≤ most_cards)
  pub keys : All (λ (entry : ℕ × ℕ). entry.1 ≤ greatest_key) s.owned
  pub owners : All (λ (entry : ℕ × ℕ). entry.0 < most_workers) s.owned
  pub event_workers : All (λ (event : Event). event.worker < most_workers) s.events

-- the numbers of a draft are in their ranges
pub record DraftFits (d : DraftValue) : Type 0 where
  pub within : length d.owned + length d.events ≤ most_lines
  pub workers : IfSome d.workers (λ count. (1 ≤ count) × (count ≤ most_workers))
  pub cards : IfSome d.cards (λ count. (1 ≤ count) × (count ≤ most_cards))
  pub keys : All (λ (entry : ℕ × ℕ). entry.1 ≤ greatest_key) d.owned
  pub owners : All (λ (entry : ℕ × ℕ). entry.0 < most_workers) d.owned
  pub event_workers : All (λ (event : Event). event.worker < most_workers) d.events
