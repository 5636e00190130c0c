use Rattle.std.proofs.Common.{◌≡◌, ℕ, suc, ◌<◌, ◌≤◌, ◌==◌, if◌then◌else◌, Bool, true, false, Some, List, [], ◌∷◌, ◌++◌, length, take, inl, inr, ◌⊎◌, refl, sym, ap, ◌∙◌, subst, arith}
use Rattle.std.proofs.lemmas.Bool.{cases_lt}
use mathlib.Core.Option.{some, some-injective}
use lib.ListN.{get_elem?}
use Rattle.ell_word.specs.Word.{packed, unpacked}
use Rattle.ell_word.specs.declared.update.Update.{Update}
use Rattle.ell_ops.specs.declared.op.Op.{Op}
use Rattle.ell_core.specs.declared.fact.Fact.{Fact}
use Rattle.ell_core.specs.declared.fact.Fact.TheVariants as fact
use Rattle.ell_core.proofs.lemmas.outcomes.Decide.{some_not_none}
use Rattle.ell_runs.specs.declared.call.Call.{Call}
use Rattle.ell_runs.specs.declared.call.Call.TheVariants as call
use Rattle.ell_runs.specs.declared.call.NewNode.{NewNode}
use Rattle.ell_runs.specs.declared.view.View.{View}
use Rattle.ell_runs.specs.Plans.{TablePlan}
use Rattle.ell_runs.specs.Views.{IsFree}
use Rattle.ell_runs.specs.Changes.{after_claim, after_flag, after_mark, is_mark_of, with_fact, unmarking, first_of}
use Rattle.ell_runs.specs.Calls.{after}
use Rattle.ell_runs.specs.States.{TableState}
use Rattle.ell_runs.specs.Starts.{Starts}
use Rattle.ell_runs.specs.Turns.{Turn, Makes, CallIsMade, TableRun, view_after}
use Rattle.ell_runs.specs.Changing.{turn_effect}
use Rattle.ell_runs.specs.Linearizing.{KeepsOnBetween}
use Rattle.ell_runs.specs.GivingUp.{IsGivenUp, GivenUpCallsChangeNothing, IsGivenUpInRun}
use Rattle.ell_runs.proofs.lemmas.seats.Seats.{set_there}
use Rattle.ell_runs.proofs.lemmas.lifetimes.Openings.{each_first}
use Rattle.ell_runs.proofs.lemmas.runs.Answering.{run_back}
use Rattle.ell_runs.proofs.lemmas.runs.LinearizingAnswers.{behind}
use Rattle.ell_runs.proofs.lemmas.runs.LinearizingCalls.{free_on, not_backed_since}
use Rattle.ell_runs.proofs.lemmas.runs.LinearizingPoints.{Changed, IsBusy, after_turns, kept, made, slice, run_slice, keep_slice, begun_of, changed_of, settled_at, same_begin}
use Rattle.ell_runs.proofs.lemmas.runs.LinearizingStates.{run_same, run_to}

-- giving a call up does not change the tree
no_effect : (s : TableState) (seat : ℕ) (t : Turn) → t ≡ Makes seat call.Leave → (op : Op) → turn_effect s t ≡ op ∷ [] → ⊥
no_effect s seat t is op e = let none : [] ≡ op ∷ [] = subst (λ (u : Turn). turn_effect s u ≡ op ∷ []) is e in absurd cc

module _ (plan : TablePlan) (s : TableState) (starts : Starts plan s) (turns : List Turn) (s' : TableState) (run : TableRun plan s turns s') where
  abbrev state : ℕ → TableState
  state = after_turns plan s starts turns s' run

  -- a call that was given up leaves its pass with nothing in hand, till it begins another
  free_left : (seat begin end : ℕ) → get_elem? turns end ≡ some (Makes seat call.Leave) → begin < end → (q : ℕ) → end < q → KeepsOnBetween seat turns begin q
      → (w : View) → get_elem? (state q).views seat ≡ some w → IsFree w
  free_left seat begin end at low q less on w there =
      let h : CallIsMade plan (state end) seat call.Leave (state (suc end)) = made plan s starts turns s' run end (Makes seat call.Leave) at in
      let v = view_after (state end) h.view call.Leave in
      let now : get_elem? (state (suc end)).views seat ≡ some v =
      ap (λ (t : TableState). get_elem? t.views seat) h.gives ∙ set_there (state end).views seat v h.view h.there in
      free_on plan seat (state (suc end)) v now refl (slice plan s starts turns s' run (suc end) q) (state q)
      (run_slice plan s starts turns s' run (suc end) q (omega arith))
      (keep_slice plan s starts turns s' run seat begin (suc end) q (omega arith) (omega arith) on) w there

  -- neither before it was given up, when its card would be known backed that has changed the tree, nor then, nor since
  unchanged : (seat begin end : ℕ) (op o : Op) (change : ℕ) → IsGivenUp turns seat begin end op → Changed plan s starts turns s' run seat begin change o → ⊥
  unchanged seat begin end op o change given_up k =
      let leave : CallIsMade plan (state end) seat call.Leave (state (suc end)) = made plan s starts turns s' run end (Makes seat call.Leave) given_up.leaves in
      elim (cases_lt change end) [
        | inl less ↦ elim (settled_at plan s starts turns s' run seat begin change o k end less given_up.on leave.view leave.there) [
          | inl free ↦ some_not_none leave.may.busy free
          | inr held ↦ not_backed_since plan k.card (state change) (kept plan s starts turns s' run change) k.turn (state (suc change))
              (made plan s starts turns s' run change k.turn k.at) k.won (slice plan s starts turns s' run (suc change) end) (state end)
              (run_slice plan s starts turns s' run (suc change) end (omega arith)) seat leave.view leave.there (leave.may.backed k.card held.holds held.flagged)
        ]
        | inr most ↦ elim (cases_lt end change) [
          | inl less ↦ some_not_none k.does (free_left seat begin end given_up.leaves given_up.later change less k.on k.view k.there)
          | inr least ↦
              let same : change ≡ end = omega arith in
              let is = some-injective k.turn (Makes seat call.Leave) (sym k.at ∙ (ap (get_elem? turns) same ∙ given_up.leaves)) in
              no_effect (state change) seat k.turn is o k.effect
        ]
      ]

pub given_up_calls_change_nothing : GivenUpCallsChangeNothing
given_up_calls_change_nothing plan s starts turns s' run seat begin end op given_up change o h =
    let k = changed_of plan s starts turns s' run begin change o h in
    let same = (same_begin turns begin seat h.by.work.seat op o given_up.begins k.begins).0 in
    unchanged plan s starts turns s' run seat begin end op o change given_up (subst (λ i. Changed plan s starts turns s' run i begin change o) (sym same) k)

module _ (op : Op) where
  -- a pass gave the operation up last
  abbrev GivenUp : View → Type 0
  GivenUp v = v.given_up ≡ Some op

  abbrev IsLeave : Call → View → Type 0
  IsLeave c v = (c ≡ call.Leave) × (v.worker.operation ≡ Some op)

  claim_given_up : (b : Bool) (c : ℕ) (q : NewNode) (v : View) → (after_claim b c q v).given_up ≡ v.given_up
  claim_given_up true c q v = refl
  claim_given_up false c q v = refl

  flag_given_up : (b : Bool) (new : Fact) (x : ℕ) (u : Update) (v : View) → (after_flag b new x u v).given_up ≡ v.given_up
  flag_given_up true new x u v = refl
  flag_given_up false new x u v = refl

  mark_given_up : (b : Bool) (c x : ℕ) (u : Update) (v : View) → (after_mark b c x u v).given_up ≡ v.given_up
  mark_given_up true c x u v = refl
  mark_given_up false c x u v = by (is_mark_of c u.state u.card)
    where
      by : (b : Bool) → (if b then with_fact (fact.Marked c) v else unmarking c x u v).given_up ≡ v.given_up
      by true = refl
      by false = refl

  given_up_before : (c : Call) (n : ℕ) (v : View) → GivenUp (after c n v) → IsLeave c v ⊎ (Unit {0} × GivenUp v)
  given_up_before call.Leave n v e = inl (refl, e)
  given_up_before (call.Begin next) n v e = absurd (some_not_none e refl)
  given_up_before call.Again n v e = absurd (some_not_none e refl)
  given_up_before (call.Claim c q) n v e = inr (tt, sym (claim_given_up (n == c) c q v) ∙ e)
  given_up_before (call.IFlag c p from) n v e = inr (tt, sym (flag_given_up (n == packed from) (fact.IFlagged c) p (unpacked n) v) ∙ e)
  given_up_before (call.DFlag c gp from) n v e = inr (tt, sym (flag_given_up (n == packed from) (fact.DFlagged c) gp (unpacked n) v) ∙ e)
  given_up_before (call.Mark c p was) n v e = inr (tt, sym (mark_given_up (n == was) c p (unpacked n) v) ∙ e)
  given_up_before (call.Answer said took) n v e = inr (tt, e)
  given_up_before (call.Upd x) n v e = inr (tt, e)
  given_up_before (call.Down x right) n v e = inr (tt, e)
  given_up_before call.Next n v e = inr (tt, e)
  given_up_before (call.KeyOf x) n v e = inr (tt, e)
  given_up_before (call.ValueOf x) n v e = inr (tt, e)
  given_up_before (call.Info c f) n v e = inr (tt, e)
  given_up_before (call.FrozenChild c p right) n v e = inr (tt, e)
  given_up_before call.Look n v e = inr (tt, e)
  given_up_before (call.LookDown from key right) n v e = inr (tt, e)
  given_up_before call.Rest n v e = inr (tt, e)
  given_up_before (call.Fill c f value) n v e = inr (tt, e)
  given_up_before (call.IChild c p l replaces right) n v e = inr (tt, e)
  given_up_before (call.IUnflag c p) n v e = inr (tt, e)
  given_up_before (call.DChild c gp p y right) n v e = inr (tt, e)
  given_up_before (call.DUnflag c gp) n v e = inr (tt, e)
  given_up_before (call.Backtrack c gp) n v e = inr (tt, e)

-- the first turns of some, and those that follow
first_turns : (a b : List Turn) → take (length a) (a ++ b) ≡ a
first_turns [] b = refl
first_turns (x ∷ xs) b = ap (λ l. x ∷ l) (first_turns xs b)

within : (a b : List Turn) → length a ≤ length (a ++ b)
within [] b = omega arith
within (x ∷ xs) b = let h = within xs b in omega arith

-- what a pass gave up last was given up in the run, and began in it
pub given_up_last : (plan : TablePlan) (w : View) (op : Op) → w.given_up ≡ Some op → (s : TableState) → Starts plan s
    → (turns : List Turn) (s' : TableState) → TableRun plan s turns s' → (seat : ℕ) → get_elem? s'.views seat ≡ some w
    → IsGivenUpInRun plan s turns seat op
given_up_last plan w op last s starts turns s' run seat there =
    elim (run_back plan seat (GivenUp op) (IsLeave op) (λ c. Unit {0}) (given_up_before op) (λ chosen v e. some_not_none e refl) (λ chosen v e. some_not_none e refl)
    (λ v w e. some_not_none e refl) (λ e. some_not_none e refl) s turns s' run (record { view = w; there = there; has = last })) [
      | inr h ↦ absurd (each_first (first_of plan) (λ u. GivenUp op u → ⊥) (λ e. some_not_none e refl) seat h.1.view
          (ap (λ (t : TableState). get_elem? t.views seat) (sym starts.is) ∙ h.1.there) h.1.has)
      | inl a ↦
          let end = length a.before in
          let led = subst (λ l. TableRun plan s l (after_turns plan s starts turns s' run end)) (ap (take end) a.parts ∙ first_turns a.before (Makes seat a.c ∷ a.later))
          (run_to plan s turns s' run end) in
          let same : a.from ≡ after_turns plan s starts turns s' run end = run_same plan s a.before a.from (after_turns plan s starts turns s' run end) a.led led in
          let busy : IsBusy (after_turns plan s starts turns s' run end) seat op =
          subst (λ x. IsBusy x seat op) same (record { view = a.made.view; there = a.made.there; does = a.is.1 }) in
          let inside : end ≤ length turns = subst (λ l. end ≤ length l) (sym a.parts) (within a.before (Makes seat a.c ∷ a.later)) in
          let begun = begun_of plan s starts turns s' run end inside seat op busy in
          let given_up : IsGivenUp turns seat begun.begin end op = record {
            begins = begun.begins;
            later = begun.later;
            on = begun.on;
            leaves = ap (λ l. get_elem? l end) a.parts ∙ (behind a.before (Makes seat a.c ∷ a.later) 0 end (omega arith) ∙ ap (λ c. some (Makes seat c)) a.is.0);
          } in
          record { begin = begun.begin; end = end; given_up = given_up; nothing = given_up_calls_change_nothing plan s starts turns s' run seat begun.begin end op given_up }
    ]
