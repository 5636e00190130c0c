use Rattle.std.proofs.Common.{ℕ, ◌≤◌, Option, Some, None, List, [], ◌∷◌, ◌++◌, ◌∙◌, subst, ap}
use Rattle.ell_core.specs.declared.event.Act.{Act}
use Rattle.ell_core.specs.declared.event.Event.{Event}
use Rattle.ell_core.specs.declared.event.Shown.{Shown}
use Rattle.ell_core.specs.declared.event.Stepped.{Stepped}
use Rattle.ell_core.specs.state.Machine.{Machine}
use Rattle.ell_core.specs.acts.Runs.{Run}
use Rattle.ell_core.specs.history.Later.{wins_of}
use Rattle.ell_core.specs.acts.Wins.{InOrder}
use Rattle.ell_core.proofs.lemmas.following.facts.Claimed.{not_claimed}
use Rattle.ell_core.proofs.lemmas.runs.Wins.{stage_wins}
use Rattle.ell_layout.proofs.lemmas.Listed.{listed_next}
use Rattle.ell_core.proofs.lemmas.stages.Waiting.{unclaimed-wins}
use Rattle.ell_runs.specs.Calls.{act_of, said_of, Becomes}
use Rattle.ell_runs.specs.Laws.{machine_of_table}
use Rattle.ell_runs.specs.Turns.{Makes, Splits, Joins, found_by}
use Rattle.ell_runs.specs.Runs.{event_of, shown_of, events_in, shown_in, RunsAreSchedules}
use Rattle.ell_runs.specs.RunLaws.{TableWinsAreInOrder}
use Rattle.ell_runs.proofs.lemmas.runs.GoingOn.{run_goes}

-- a call and a run of the machine after it
after : (seat : ℕ) (a : Option Act) (said : Stepped) (m between : Machine) (es : List Event) (xs : List Shown) (m' : Machine)
    → Becomes seat a said m between → Run between es xs m' → Run m (event_of seat a ++ es) (shown_of a said ++ xs) m'
after seat None said m between es xs m' is run = subst (λ n. Run n es xs m') is run
after seat (Some a) said m between es xs m' steps run = (between, steps, run)

pub runs_are_schedules : RunsAreSchedules
runs_are_schedules plan s r [] s' r' run calls lawful = lawful
runs_are_schedules plan s r (Makes seat c ∷ ts) s' r' run calls lawful =
    after seat (act_of c (found_by s c)) (said_of c (found_by s c)) (machine_of_table plan s r) (machine_of_table plan run.0 lawful.0)
    (events_in plan run.0 ts s' run.2) (shown_in plan run.0 ts s' run.2) (machine_of_table plan s' r') lawful.1.machine
    (runs_are_schedules plan run.0 lawful.0 ts s' r' run.2 calls lawful.2)
runs_are_schedules plan s r (Splits seat left ∷ ts) s' r' run calls lawful = absurd calls
runs_are_schedules plan s r (Joins seat other ∷ ts) s' r' run calls lawful = absurd calls

-- the wins up to any stage are in order
pub table_wins_are_in_order : TableWinsAreInOrder
table_wins_are_in_order plan s r = record {
  first = λ c e. ap (λ d. wins_of (r.stages d)) e ∙ ap wins_of r.invariant.words.opening;
  fresh = λ c past. unclaimed-wins (r.stages c)
      (not_claimed r.words r.stages r.invariant.words c (subst (λ n. n ≤ c) (listed_next s.words ∙ r.next) past));
  order = λ turns s' run c.
      let goes = (run_goes plan s r r.stages r.invariant turns s' run).1 in subst InOrder (goes.wins c) (stage_wins (goes.stages c));
}
