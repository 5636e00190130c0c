use Rattle.std.proofs.Common.{◌≡◌, ◌<◌, ◌==◌, ℕ, if◌then◌else◌, Bool, true, false, Option, Some, None, List, [], ◌∷◌, ◌++◌, refl, sym, ap, ◌∙◌, subst}
use Rattle.std.proofs.lemmas.List.{append-nil}
use Rattle.ell_word.specs.Link.{linked}
use Rattle.ell_word.specs.Word.{packed}
use Rattle.ell_layout.specs.Cards.{iflag, dflag}
use Rattle.ell_core.specs.acts.Exchanges.{won_or_lost}
use Rattle.ell_core.specs.acts.Wins.{win_for, win_by, wins_by}
use Rattle.ell_core.specs.declared.event.Act.{Act}
use Rattle.ell_core.specs.declared.event.Act.TheVariants as act
use Rattle.ell_core.specs.declared.event.Stepped.TheVariants.{Moved}
use Rattle.ell_core.specs.declared.exchange.Exchange.TheVariants as exchange
use Rattle.ell_core.specs.history.Later.{wins_of}
use Rattle.ell_core.specs.history.Stages.{Stages}
use Rattle.ell_runs.specs.declared.call.Call.{Call}
use Rattle.ell_runs.specs.declared.call.Call.TheVariants as call
use Rattle.ell_runs.specs.declared.view.View.{View}
use Rattle.ell_runs.specs.Plans.{TablePlan}
use Rattle.ell_runs.specs.States.{TableState}
use Rattle.ell_runs.specs.Machines.{HasMachine}
use Rattle.ell_runs.specs.Calls.{word_of, atomic_of, is_won, act_of, said_of, May}
use Rattle.ell_runs.specs.Laws.{machine_of_table, act_wins}
use Rattle.ell_runs.specs.TurnEffects.{win_of}
use Rattle.ell_runs.specs.Turns.{Turn, Makes, Splits, Joins, TableTurns, TableRun, found_by, state_after, state_split, state_joined}
use Rattle.ell_runs.specs.Runs.{TurnIsLawful, RunsAreLawful}
use Rattle.ell_runs.proofs.lemmas.seats.Statements.{InsideByMachine}
use Rattle.ell_runs.proofs.lemmas.stepping.AllCalls.{steps_are_events}
use Rattle.ell_runs.proofs.lemmas.seats.Named.{kept_named}
use Rattle.ell_runs.proofs.lemmas.seats.Staying.{word_fits}
use Rattle.ell_runs.proofs.lemmas.lifetimes.Splits.{splits_are_handovers}
use Rattle.ell_runs.proofs.lemmas.lifetimes.Joins.{joins_are_handovers}
use Rattle.ell_runs.proofs.lemmas.own_words.OwnWords.{own_words_are_sound}
use Rattle.ell_runs.proofs.lemmas.own_words.OwnKeys.{table_pairs_change_at_wins}

-- a run, and another after it
pub run_append : (plan : TablePlan) (s : TableState) (turns : List Turn) (s' : TableState) (more : List Turn) (s'' : TableState) → TableRun plan s turns s'
    → TableRun plan s' more s'' → TableRun plan s (turns ++ more) s''
run_append plan s [] s' more s'' run rest = subst (λ x. TableRun plan x more s'') run rest
run_append plan s (t ∷ ts) s' more s'' run rest = (run.0, run.1, run_append plan run.0 ts s' more s'' run.2 rest)

-- a run, and a turn after it
pub one_more_turn : (plan : TablePlan) (s : TableState) (turns : List Turn) (s' : TableState) (t : Turn) (s'' : TableState) → TableRun plan s turns s'
    → TableTurns plan s' t s'' → TableRun plan s (turns ++ t ∷ []) s''
one_more_turn plan s [] s' t s'' run turn = (s'', subst (λ x. TableTurns plan x t s'') run turn, refl)
one_more_turn plan s (u ∷ us) s' t s'' run turn = (run.0, run.1, one_more_turn plan run.0 us s' t s'' run.2 turn)

-- the word that a step call touches is in the table
pub steps_stay_inside : InsideByMachine
steps_stay_inside plan s r id v c here may =
    subst (λ n. word_of c < n) (sym r.size) (word_fits plan c v may plan.last_card (kept_named plan s r id v here))

-- what an act wins that is won or lost, and what a claim does
tried : (a : Act) (b : Bool) (hand : Option ℕ) (d : ℕ) → wins_by a hand (won_or_lost b) d ≡ (if b then win_by a hand d else [])
tried a true hand d = refl
tried a false hand d = refl

claimed : (b : Bool) (hand : Option ℕ) (d : ℕ) → act_wins (if b then Some act.Claim else None) hand Moved d ≡ (if b then [] else [])
claimed true hand d = refl
claimed false hand d = refl

-- what the event of a call wins is what the call does
pub won_alike : (plan : TablePlan) (c : Call) (n : ℕ) (v : View) → May plan c v → (d : ℕ)
    → act_wins (act_of c n) v.worker.card (said_of c n) d ≡ (if is_won (atomic_of c) n then win_of c d else [])
won_alike plan (call.Claim c q) n v may d = claimed (n == c) v.worker.card d
won_alike plan (call.IFlag c p from) n v may d =
    tried act.IFlag (n == packed from) v.worker.card d ∙ λ t. if n == packed from then win_for (may.may.holds t) exchange.IFlag d else []
won_alike plan (call.IChild c p l replaces right) n v may d = tried (act.IChild c) (n == linked l) v.worker.card d
won_alike plan (call.IUnflag c p) n v may d = tried (act.IUnflag c) (n == iflag c) v.worker.card d
won_alike plan (call.DFlag c gp from) n v may d =
    tried act.DFlag (n == packed from) v.worker.card d ∙ λ t. if n == packed from then win_for (may.may.holds t) exchange.DFlag d else []
won_alike plan (call.Mark c p was) n v may d = tried (act.Mark c) (n == was) v.worker.card d
won_alike plan (call.DChild c gp p sibling right) n v may d = tried (act.DChild c) (n == linked p) v.worker.card d
won_alike plan (call.DUnflag c gp) n v may d = tried (act.DUnflag c) (n == dflag c) v.worker.card d
won_alike plan (call.Backtrack c gp) n v may d = tried (act.Backtrack c) (n == dflag c) v.worker.card d
won_alike plan c n v may d = refl

-- where the stages are the same, nothing was won
none_won : (old new : Stages) → new ≡ old → (d : ℕ) → wins_of (new d) ≡ wins_of (old d) ++ []
none_won old new same d = ap (λ (stage : Stages). wins_of (stage d)) same ∙ sym (append-nil (wins_of (old d)))

module _ (plan : TablePlan) where
  -- one turn
  pub turn_lawful : (s : TableState) (r : HasMachine plan s) (t : Turn) (s' : TableState) → TableTurns plan s t s'
      → (k : HasMachine plan s') × TurnIsLawful plan s r t s' k
  turn_lawful s r (Makes seat c) s' h =
      let step = steps_are_events plan s r seat h.view c h.there h.may in
      subst (λ x. (k : HasMachine plan x) × TurnIsLawful plan s r (Makes seat c) x k) (sym h.gives) (
        step.kept,
        record {
          machine = step.event;
          later = step.later;
          wins = λ d. step.wins d ∙ ap (λ ks. wins_of (r.stages d) ++ ks) (won_alike plan c (found_by s c) h.view h.may d);
          still = step.still;
          tree = table_pairs_change_at_wins plan s r seat h.view c h.there h.may;
          sound = own_words_are_sound plan (state_after s seat h.view c) step.kept;
        },
      )
  turn_lawful s r (Splits seat left) s' h =
      let step = splits_are_handovers plan s r seat h.view left h.there h.free in
      subst (λ x. (k : HasMachine plan x) × TurnIsLawful plan s r (Splits seat left) x k) (sym h.gives) (
        step.kept,
        record {
          machine = step.split;
          later = step.later;
          wins = none_won r.stages step.kept.stages step.stages;
          still = λ none. step.stages;
          tree = λ k value. (λ x. x, λ x. x);
          sound = own_words_are_sound plan (state_split s seat h.view left) step.kept;
        },
      )
  turn_lawful s r (Joins seat other) s' h =
      let step = joins_are_handovers plan s r seat other h.view h.view' h.there h.there' h.apart h.free h.free' in
      subst (λ x. (k : HasMachine plan x) × TurnIsLawful plan s r (Joins seat other) x k) (sym h.gives) (
        step.kept,
        record {
          machine = step.join;
          later = step.later;
          wins = none_won r.stages step.kept.stages step.stages;
          still = λ none. step.stages;
          tree = λ k value. (λ x. x, λ x. x);
          sound = own_words_are_sound plan (state_joined s seat other h.view h.view') step.kept;
        },
      )

-- turn by turn
pub runs_are_lawful : RunsAreLawful
runs_are_lawful plan s r [] s' run =
    let end = subst (λ x. (k : HasMachine plan x) × (machine_of_table plan x k ≡ machine_of_table plan s r)) (sym run) (r, refl) in
    record { kept = end.0; lawful = end.1 }
runs_are_lawful plan s r (t ∷ ts) s' run =
    let turn = turn_lawful plan s r t run.0 run.1 in
    let rest = runs_are_lawful plan run.0 turn.0 ts s' run.2 in
    record { kept = rest.kept; lawful = (turn.0, turn.1, rest.lawful) }
