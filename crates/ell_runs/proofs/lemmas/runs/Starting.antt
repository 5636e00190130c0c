use Rattle.std.proofs.Common.{◌≡◌, ◌↔◌, ◌++◌, Some, List, [], ◌∷◌, refl, sym, subst, inl, inr}
use Rattle.std.specs.Prelude.{Contains}
use Rattle.ell_ops.specs.Contents.{contents_of}
use Rattle.ell_ops.specs.Meaning.{key_of}
use Rattle.ell_core.specs.tree.Tree.{IsTreePair}
use Rattle.ell_core.specs.acts.Wins.{InOrder}
use Rattle.ell_core.specs.state.Opening.{keys_at_start}
use Rattle.ell_runs.specs.Plans.{TablePlan}
use Rattle.ell_runs.specs.declared.call.Call.TheVariants as call
use Rattle.ell_runs.specs.Changes.{ledger_keys, first_of}
use Rattle.ell_runs.specs.States.{TableState}
use Rattle.ell_runs.specs.Machines.{HasMachine}
use Rattle.ell_runs.specs.Turns.{Turn, Makes, Splits, Joins, TableTurns, TableRun, state_after}
use Rattle.ell_runs.specs.Runs.{TurnIsLawful, TurnsAreLawful}
use Rattle.ell_runs.specs.TurnEffects.{TurnDoes, TurnsDo, run_wins}
use Rattle.ell_runs.specs.Starts.{TablesStart, StartsHaveTheirKeys, MayBeginThere, FirstPassMayBegin, RunsFromStarts}
use Rattle.ell_runs.specs.RunLaws.{StartIsKept, StartsAreKept}
use Rattle.ell_runs.proofs.lemmas.words.Keys.{among_owned, contains_among}
use Rattle.ell_core.proofs.lemmas.opening.StartKeys.{start_pairs}
use Rattle.ell_runs.proofs.lemmas.lifetimes.Openings.{shared_there, start_real, opening_is_kept, keys_start, shared_there}
use Rattle.ell_runs.proofs.lemmas.lifetimes.StartLists.{start_list, start_list_starts}
use Rattle.ell_runs.proofs.lemmas.own_words.OwnWords.{own_words_are_sound}
use Rattle.ell_runs.proofs.lemmas.own_words.OwnLedgers.{table_answers_are_the_maps}
use Rattle.ell_runs.proofs.lemmas.own_words.ChangesOf.{table_changes_are_operations}
use Rattle.ell_runs.proofs.lemmas.runs.TurnsOfRuns.{runs_are_lawful}
use Rattle.ell_runs.proofs.lemmas.runs.WinsOfRuns.{table_wins_are_in_order}

-- a new table is one
pub tables_start : TablesStart
tables_start plan may = record {
  table = record { words = (start_list plan); views = first_of plan ∷ [] };
  starts = record { may = may; words = start_list_starts plan may; is = refl };
}

-- an opening table has a machine
pub starts_are_kept : StartsAreKept
starts_are_kept plan s starts = subst (StartIsKept plan) (sym starts.is) (opening_is_kept plan s.words starts.may starts.words)

-- the tree at the start has the start keys, which are real ones
pub starts_have_their_keys : StartsHaveTheirKeys
starts_have_their_keys plan s starts k value =
    subst (λ w. IsTreePair w k value ↔ (contents_of plan.start k ≡ Some value)) (sym starts.words.are)
    (start_pairs plan.start starts.may.start_ascending (start_real plan starts.may) plan.flat k value)

-- nothing is in hand, and the key is owned or shared
pub first_pass_may_begin : FirstPassMayBegin
first_pass_may_begin plan s starts op has =
    subst (λ x. MayBeginThere plan x op) (sym starts.is) (record {
      after = state_after ((record { words = s.words; views = first_of plan ∷ [] })) 0 (first_of plan) (call.Begin op);
      turn = record {
        view = first_of plan;
        there = refl;
        may = (
          refl,
          elim has [
            | inl own ↦ inl (among_owned (keys_at_start plan.keys plan.start) (key_of op)
                (contains_among (ledger_keys (keys_at_start plan.keys plan.start)) (key_of op)
                (subst (λ ks. Contains ks (key_of op)) (sym (keys_start plan.keys plan.start)) own)))
            | inr shared ↦ inr (shared_there plan (key_of op) shared)
          ],
        );
        gives = refl;
      };
    })

module _ (plan : TablePlan) where
  -- a lawful turn does as turns do
  turn_does : (s : TableState) (r : HasMachine plan s) (t : Turn) (s' : TableState) (r' : HasMachine plan s') (turn : TableTurns plan s t s')
      → TurnIsLawful plan s r t s' r' → TurnDoes plan s t s' turn
  turn_does s r (Makes seat c) s' r' turn lawful = record {
    pairs = lawful.tree;
    won = table_changes_are_operations plan s r seat turn.view c turn.there turn.may;
    ledger = table_answers_are_the_maps plan s r seat turn.view c turn.there turn.may;
    sound = lawful.sound;
  }
  turn_does s r (Splits seat left) s' r' turn lawful = record { pairs = lawful.tree; won = tt; ledger = tt; sound = lawful.sound }
  turn_does s r (Joins seat other) s' r' turn lawful = record { pairs = lawful.tree; won = tt; ledger = tt; sound = lawful.sound }

  turns_do : (s : TableState) (r : HasMachine plan s) (turns : List Turn) (s' : TableState) (r' : HasMachine plan s')
      (run : TableRun plan s turns s') → TurnsAreLawful plan s r turns s' r' run → TurnsDo plan s turns s' run
  turns_do s r [] s' r' run lawful = tt
  turns_do s r (t ∷ ts) s' r' run lawful =
      (turn_does s r t run.0 lawful.0 run.1 lawful.1, turns_do run.0 lawful.0 ts s' r' run.2 lawful.2)

-- nothing was won before
pub runs_from_starts : RunsFromStarts
runs_from_starts plan s starts turns s' run =
    let last = plan.last_card in
    let first = starts_are_kept plan s starts in
    let lawful = runs_are_lawful plan s first.kept turns s' run in
    let wins = table_wins_are_in_order plan s first.kept in
    record {
      opens = starts_have_their_keys plan s starts;
      turns_do = turns_do plan s first.kept turns s' lawful.kept run lawful.lawful;
      sound = own_words_are_sound plan s' lawful.kept;
      wins = λ c. subst (λ ks. InOrder (ks ++ run_wins plan s turns s' run c)) (first.unwon c) (wins.order turns s' run c);
    }
