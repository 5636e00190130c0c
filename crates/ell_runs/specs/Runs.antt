use Rattle.std.specs.Prelude.{◌≡◌, ℕ, Option, Some, None, List, [], ◌∷◌, ◌++◌}
use Rattle.ell_core.specs.history.Later.{StagesLater, wins_of}
use Rattle.ell_core.specs.declared.event.Act.{Act}
use Rattle.ell_core.specs.declared.event.Event.{Event}
use Rattle.ell_core.specs.declared.event.Shown.{Shown}
use Rattle.ell_core.specs.declared.event.Shown.TheVariants.{Step}
use Rattle.ell_core.specs.declared.event.Stepped.{Stepped}
use Rattle.ell_core.specs.state.Machine.{Machine}
use Rattle.ell_core.specs.state.Handovers.{Split, Join}
use Rattle.ell_core.specs.acts.Runs.{Run}
use Rattle.ell_core.specs.soundness.Sound.{IsSound}
use Rattle.ell_runs.specs.Plans.{TablePlan}
use Rattle.ell_runs.specs.Calls.{act_of, said_of, Becomes}
use Rattle.ell_runs.specs.States.{TableState}
use Rattle.ell_runs.specs.Turns.{Turn, Makes, Splits, Joins, TableRun, found_by}
use Rattle.ell_runs.specs.TurnEffects.{own_machine, PairsGoBy, turn_wins}
use Rattle.ell_runs.specs.Machines.{HasMachine}
use Rattle.ell_runs.specs.Laws.{machine_of_table}

-- how the machine goes on by a turn: a call is its event, with the answer by the word that it found, or leaves the
-- machine; a split is its split, and a join its join
abbrev pub GoesBy : TableState → Turn → Machine → Machine → Type 0
GoesBy s (Makes seat c) m m' = Becomes seat (act_of c (found_by s c)) (said_of c (found_by s c)) m m'
GoesBy s (Splits seat left) m m' = Split m seat m'
GoesBy s (Joins seat other) m m' = Join m seat other m'

-- the event that a turn is, if it is one
abbrev pub act_of_turn : TableState → Turn → Option Act
act_of_turn s (Makes seat c) = act_of c (found_by s c)
act_of_turn s _ = None

-- a turn between states that have machines: the machine goes on by it, the wins of each card grow by what it wins for
-- that card, and all cards are at their stages if it is no event; the pairs of the tree go on by it too, and the
-- table's own words after it are a sound state
pub record TurnIsLawful (plan : TablePlan) (s : TableState) (r : HasMachine plan s) (t : Turn)
    (s' : TableState) (r' : HasMachine plan s') : Type 0 where
  pub machine : GoesBy s t (machine_of_table plan s r) (machine_of_table plan s' r')
  pub later : StagesLater r.stages r'.stages
  pub wins : (d : ℕ) → wins_of (r'.stages d) ≡ wins_of (r.stages d) ++ turn_wins s t d
  pub still : act_of_turn s t ≡ None → r'.stages ≡ r.stages
  pub tree : PairsGoBy s t s'
  pub sound : IsSound (own_machine plan.last_card s')

-- the turns of a run from a state that has a machine, each to one that has
abbrev pub TurnsAreLawful : (plan : TablePlan) (s : TableState) (r : HasMachine plan s) (turns : List Turn)
    (s' : TableState) (r' : HasMachine plan s')
    → TableRun plan s turns s' → Type 0
TurnsAreLawful plan s r [] s' r' run = machine_of_table plan s' r' ≡ machine_of_table plan s r
TurnsAreLawful plan s r (t ∷ ts) s' r' run =
    (between : HasMachine plan run.0) × TurnIsLawful plan s r t run.0 between
    × TurnsAreLawful plan run.0 between ts s' r' run.2

-- a run leads from a state that has a machine to one that has, by such turns
pub record RunIsLawful (plan : TablePlan) (s : TableState) (r : HasMachine plan s) (turns : List Turn)
    (s' : TableState) (run : TableRun plan s turns s') : Type 0 where
  pub kept : HasMachine plan s'
  pub lawful : TurnsAreLawful plan s r turns s' kept run

-- so does every run
abbrev pub RunsAreLawful : Type 0
RunsAreLawful =
    (plan : TablePlan) (s : TableState) (r : HasMachine plan s) (turns : List Turn) (s' : TableState)
    (run : TableRun plan s turns s') → RunIsLawful plan s r turns s' run

-- the event of a call, if it is one, and what the machine shows of it
abbrev pub event_of : ℕ → Option Act → List Event
event_of seat None = []
event_of seat (Some a) = record { worker = seat; act = a } ∷ []

abbrev pub shown_of : Option Act → Stepped → List Shown
shown_of None said = []
shown_of (Some a) said = Step said ∷ []

-- those of a turn
abbrev pub turn_events : TableState → Turn → List Event
turn_events s (Makes seat c) = event_of seat (act_of c (found_by s c))
turn_events s _ = []

abbrev pub turn_shown : TableState → Turn → List Shown
turn_shown s (Makes seat c) = shown_of (act_of c (found_by s c)) (said_of c (found_by s c))
turn_shown s _ = []

-- those of a run
abbrev pub events_in : (plan : TablePlan) (s : TableState) (turns : List Turn) (s' : TableState) → TableRun plan s turns s'
    → List Event
events_in plan s [] s' run = []
events_in plan s (t ∷ ts) s' run = turn_events s t ++ events_in plan run.0 ts s' run.2

abbrev pub shown_in : (plan : TablePlan) (s : TableState) (turns : List Turn) (s' : TableState) → TableRun plan s turns s'
    → List Shown
shown_in plan s [] s' run = []
shown_in plan s (t ∷ ts) s' run = turn_shown s t ++ shown_in plan run.0 ts s' run.2

-- all turns are step calls
abbrev pub AreCalls : List Turn → Type 0
AreCalls [] = Unit {0}
AreCalls (Makes seat c ∷ ts) = AreCalls ts
AreCalls (_ ∷ ts) = ⊥

-- a run of step calls whose turns are lawful is a run of the machine, by the events of the calls
abbrev pub RunsAreSchedules : Type 0
RunsAreSchedules = (plan : TablePlan) (s : TableState) (r : HasMachine plan s) (turns : List Turn)
    (s' : TableState) (r' : HasMachine plan s')
    (run : TableRun plan s turns s') → AreCalls turns → TurnsAreLawful plan s r turns s' r' run
    → Run (machine_of_table plan s r) (events_in plan s turns s' run)
    (shown_in plan s turns s' run)
    (machine_of_table plan s' r')
