use Rattle.std.proofs.Common.{◌≡◌, ℕ, List, [], ◌∷◌, ◌++◌, length, refl, sym, ◌∙◌}
use lib.ListN.{get_elem?}
use mathlib.Core.Option.{some}
use Rattle.ell_layout.specs.Layout.{table_size}
use Rattle.ell_layout.specs.Words.{words_of}
use Rattle.ell_layout.specs.Start.{words_at_start}
use Rattle.ell_runs.specs.declared.call.Call.{Call}
use Rattle.ell_runs.specs.declared.view.Told.TheVariants.{Key}
use Rattle.ell_runs.specs.declared.view.View.{View}
use Rattle.ell_runs.specs.Plans.{TablePlan}
use Rattle.ell_runs.specs.Changes.{first_of}
use Rattle.ell_runs.specs.Calls.{May}
use Rattle.ell_runs.specs.States.{TableState}
use Rattle.ell_runs.specs.Machines.{HasMachine}
use Rattle.ell_runs.specs.Turns.{Turn, Makes, TableTurns, TableRun, state_after}
use Rattle.ell_runs.specs.Starts.{MayStart, Starts, IsReached, RunFromStart}
use Rattle.ell_runs.specs.Looking.{KeysAreFixed}
use Rattle.ell_runs.proofs.lemmas.runs.Starting.{starts_are_kept, runs_from_starts}
use Rattle.ell_runs.proofs.lemmas.runs.TurnsOfRuns.{one_more_turn, runs_are_lawful}

-- a new table starts
pub starts_first : (plan : TablePlan) (words : List ℕ) → MayStart plan → length words ≡ table_size plan.last_card
    → words_of words ≡ words_at_start plan.flat plan.start → Starts plan ((record { words = words; views = first_of plan ∷ [] }))
starts_first plan words may size are = record { may = may; words = record { size = size; are = are }; is = refl }

-- so it is where no turn has led
abbrev pub reached_first : (plan : TablePlan) (words : List ℕ) → MayStart plan → length words ≡ table_size plan.last_card
    → words_of words ≡ words_at_start plan.flat plan.start → IsReached plan ((record { words = words; views = first_of plan ∷ [] }))
reached_first plan words may size are = record {
  first = record { words = words; views = first_of plan ∷ [] };
  starts = starts_first plan words may size are;
  turns = [];
  run = refl;
}

-- wherever turns have led from a start, there is a machine
pub led_kept : (plan : TablePlan) (first : TableState) → Starts plan first → (turns : List Turn) (s : TableState)
    → TableRun plan first turns s → HasMachine plan s
led_kept plan first starts turns s run =
    (runs_are_lawful plan first (starts_are_kept plan first starts).kept turns s run).kept

module _ (plan : TablePlan) where
  module _ (s : TableState) (h : IsReached plan s) where
    -- what is reached has a machine
    pub reached_kept : HasMachine plan s
    reached_kept =
        let first = (starts_are_kept plan h.first h.starts).kept in
        (runs_are_lawful plan h.first first h.turns s h.run).kept

    -- and a run from a start leads there
    pub reached_ran : RunFromStart plan h.first h.turns s h.run
    reached_ran = runs_from_starts plan h.first h.starts h.turns s h.run

    -- a turn leads on
    abbrev pub reached_on : (t : Turn) (s' : TableState) → TableTurns plan s t s' → IsReached plan s'
    reached_on t s' turn = record {
      first = h.first;
      starts = h.starts;
      turns = h.turns ++ t ∷ [];
      run = one_more_turn plan h.first h.turns s t s' h.run turn;
    }

  -- no pass was told two keys of one node
  pub told_once : (s : TableState) → IsReached plan s → (id : ℕ) (v : View) → get_elem? s.views id ≡ some v → KeysAreFixed v
  told_once s h id v here node key other told told' =
      let holds = (reached_kept s h).views id v here in
      sym (holds.entries (Key node key) told).1 ∙ (holds.entries (Key node other) told').1

  -- a step call is a turn
  abbrev pub call_on : (s : TableState) → IsReached plan s → (id : ℕ) (c : Call) (v : View) → get_elem? s.views id ≡ some v → May plan c v
      → IsReached plan (state_after s id v c)
  call_on s h id c v here may =
      reached_on s h (Makes id c) (state_after s id v c) (record { view = v; there = here; may = may; gives = refl })
