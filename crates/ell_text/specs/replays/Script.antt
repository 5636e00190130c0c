use Rattle.std.specs.Prelude.{ℕ, ◌+◌, ◌<◌, ◌≡◌, Bool, true, false, IsTrue, not, nat_lt, List, [], ◌∷◌, length, take, slice_index_or, Option, None, Some, Result, Ok, Err, if◌then◌else◌}
use Rattle.std.specs.List.{filter, filter_map}
use Rattle.ell_core.specs.declared.event.Event.{Event}
use Rattle.ell_text.specs.declared.replay_line.Place.{Place}
use Rattle.ell_text.specs.declared.replay_line.Place.TheVariants as at
use Rattle.ell_text.specs.declared.replay_line.ReplayLineFault.{ReplayLineFault}
use Rattle.ell_text.specs.declared.replay_line.ReplayLineFault.TheVariants as own
use Rattle.ell_text.specs.declared.replay_line.Said.{Said}
use Rattle.ell_text.specs.declared.replay_line.Said.TheVariants as says
use Rattle.ell_text.specs.declared.replay.ReplayFault.{ReplayFault}
use Rattle.ell_text.specs.declared.replay.ReplayFault.TheVariants.{BadLine, BadNumber, KeyTooLarge, TooManyLines, Ended}
use Rattle.ell_text.specs.declared.replay.Script.{Script}
use Rattle.ell_text.specs.Bulk.{first}
use Rattle.ell_text.specs.Limits.{most_lines}
use Rattle.ell_text.specs.Lines.{is_skipped, lines}
use Rattle.ell_text.specs.replays.ReplayLine.{replay_line_at}

-- A script: the number of workers, the number of cards, each owned key with its worker, and the events.
pub record ScriptValue : Type 0 where
  pub workers : ℕ
  pub cards : ℕ
  pub owned : List (ℕ × ℕ)
  pub events : List Event

-- the number of workers that a line says, if it says one
abbrev pub workers_said : Result (Option Said) ReplayLineFault → Option ℕ
workers_said (Ok (Some (says.Workers count))) = Some count
workers_said other = None

-- the number of cards that a line says, if it says one
abbrev pub cards_said : Result (Option Said) ReplayLineFault → Option ℕ
cards_said (Ok (Some (says.Cards count))) = Some count
cards_said other = None

-- the worker and the key of its own that a line says, if it says them
abbrev pub entry_said : Result (Option Said) ReplayLineFault → Option (ℕ × ℕ)
entry_said (Ok (Some (says.Own worker key))) = Some (worker, key)
entry_said other = None

-- the event that a line says, if it says one
abbrev pub event_said : Result (Option Said) ReplayLineFault → Option Event
event_said (Ok (Some (says.Event event))) = Some event
event_said other = None

-- the lines that are not skipped
abbrev pub spoken : List (List ℕ) → List (List ℕ)
spoken text = filter (λ line. not (is_skipped line)) text

-- the entries of the own lines among some lines, in order
abbrev pub entries : List (List ℕ) → List (ℕ × ℕ)
entries text = filter_map (λ line. entry_said (replay_line_at at.Owns line)) text

-- the events among some lines, in order
abbrev pub events_in : List (List ℕ) → List Event
events_in text = filter_map (λ line. event_said (replay_line_at at.Events line)) text

-- the place behind the two head lines: own lines may stand up to the first event
abbrev pub place_behind : List Event → Place
place_behind [] = at.Owns
place_behind (event ∷ events) = at.Events

-- the place of a line, before which these lines stand that are not skipped
abbrev pub place_after : List (List ℕ) → Place
place_after [] = at.Workers
place_after (workers ∷ []) = at.Cards
place_after (workers ∷ cards ∷ more) = place_behind (events_in more)

-- a line's own fault, with the line's number
abbrev pub replay_located : ℕ → ReplayLineFault → ReplayFault
replay_located number own.BadLine = BadLine number
replay_located number own.BadNumber = BadNumber number
replay_located number own.KeyTooLarge = KeyTooLarge number

-- how many entries and events these lines say: the first two are the heads
abbrev pub kept_count : List (List ℕ) → ℕ
kept_count [] = 0
kept_count (workers ∷ []) = 0
kept_count (workers ∷ cards ∷ more) = length (entries more) + length (events_in more)

-- the fault of the line of this number, before which so many entries and events stand
abbrev pub replay_fault_of : ℕ → ℕ → Result (Option Said) ReplayLineFault → Option ReplayFault
replay_fault_of number before (Err fault) = Some (replay_located number fault)
replay_fault_of number before (Ok None) = None
replay_fault_of number before (Ok (Some said)) = if nat_lt before most_lines then None else Some (TooManyLines number)

-- what the line at index i says, at its place
abbrev pub replay_line : List (List ℕ) → ℕ → Result (Option Said) ReplayLineFault
replay_line text i = replay_line_at (place_after (spoken (take i text))) (slice_index_or text i [])

-- the fault of the line at index i, if it has one
abbrev pub replay_fault_at : List (List ℕ) → ℕ → Option ReplayFault
replay_fault_at text i = replay_fault_of (i + 1) (kept_count (spoken (take i text))) (replay_line text i)

-- whether a line says an entry or an event, which a script keeps
abbrev pub is_kept : Result (Option Said) ReplayLineFault → Bool
is_kept (Ok (Some (says.Own worker key))) = true
is_kept (Ok (Some (says.Event event))) = true
is_kept other = false

-- some line says an entry or an event, and neither it nor a line before it has a fault
pub record HasSoundEntry (text : List (List ℕ)) : Type 0 where
  pub at : ℕ
  pub within : at < length text
  pub kept : IsTrue (is_kept (replay_line text at))
  pub sound : first (replay_fault_at text) (at + 1) ≡ None

-- a script of these parts, where both numbers are there
abbrev pub script_from : Option ℕ → Option ℕ → List (ℕ × ℕ) → List Event → Option ScriptValue
script_from (Some workers) (Some cards) owned events =
    Some (record { workers = workers; cards = cards; owned = owned; events = events })
script_from (Some workers) None owned events = None
script_from None cards owned events = None

-- the script of the lines that are not skipped: the first two say the numbers of workers and of cards
abbrev pub script_of : List (List ℕ) → Option ScriptValue
script_of (head ∷ second ∷ more) =
    script_from (workers_said (replay_line_at at.Workers head)) (cards_said (replay_line_at at.Cards second))
    (entries more) (events_in more)
script_of other = None

-- the fault, or else the script, where the text did not end before it
abbrev pub unless_replay_fault : Option ReplayFault → Option ScriptValue → Result ScriptValue ReplayFault
unless_replay_fault (Some fault) found = Err fault
unless_replay_fault None (Some found) = Ok found
unless_replay_fault None None = Err Ended

-- the script of a replay text, or its first fault
abbrev pub script : List ℕ → Result ScriptValue ReplayFault
script bytes = unless_replay_fault (first (replay_fault_at (lines bytes)) (length (lines bytes)))
    (script_of (spoken (lines bytes)))

-- what a script is, its lists without their places in memory
abbrev pub script_value : {A : Type 0} → Script A → ScriptValue
script_value s = record { workers = s.workers; cards = s.cards; owned = s.owned.items; events = s.events.items }
