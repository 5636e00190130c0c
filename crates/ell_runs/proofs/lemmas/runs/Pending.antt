use Rattle.std.proofs.Common.{◌≡◌, ℕ, zero, suc, ◌<◌, ◌≤◌, ◌+◌, ◌-◌, ◌⊎◌, ◌==◌, if◌then◌else◌, Bool, true, false, Option, List, [], ◌∷◌, length, inl, inr, refl, sym, ap, ◌∙◌, subst, arith}
use mathlib.Core.Option.{some, some-injective}
use lib.ListN.{get_elem?}
use Rattle.ell_word.specs.Word.{packed, unpacked}
use Rattle.ell_word.specs.declared.update.Update.{Update}
use Rattle.ell_ops.specs.declared.op.Op.{Op}
use Rattle.ell_ops.specs.declared.reply.Reply.{Reply}
use Rattle.ell_core.specs.declared.fact.Fact.{Fact}
use Rattle.ell_core.specs.declared.fact.Fact.TheVariants as fact
use Rattle.ell_core.proofs.lemmas.outcomes.Decide.{some_not_none}
use Rattle.ell_runs.specs.declared.call.Call.{Call}
use Rattle.ell_runs.specs.declared.call.Call.TheVariants as call
use Rattle.ell_runs.specs.declared.call.NewNode.{NewNode}
use Rattle.ell_runs.specs.declared.view.View.{View}
use Rattle.ell_runs.specs.Plans.{TablePlan}
use Rattle.ell_runs.specs.Views.{Does, IsFree}
use Rattle.ell_runs.specs.Changes.{after_claim, after_flag, after_mark, is_mark_of, with_fact, unmarking}
use Rattle.ell_runs.specs.Calls.{after, May}
use Rattle.ell_runs.specs.States.{TableState}
use Rattle.ell_runs.specs.Starts.{Starts}
use Rattle.ell_runs.specs.Turns.{Turn, Makes, Splits, Joins, TableTurns, TableRun, found_by}
use Rattle.ell_runs.specs.Meanwhile.{KeepsOn, KeepOn}
use Rattle.ell_runs.specs.Linearizing.{KeepsOnBetween, IsAnswered, ChangesAt}
use Rattle.ell_runs.proofs.lemmas.runs.OwnSeat.{Only, turn_seat}
use Rattle.ell_runs.proofs.lemmas.runs.GivingUp.{given_up_calls_change_nothing}
use Rattle.ell_runs.proofs.lemmas.runs.LinearizingStates.{at_end, turn_inside}
use Rattle.ell_runs.proofs.lemmas.runs.LinearizingPoints.{after_turns, made, changed_of, more_on}

-- a call that neither answers the operation in hand nor gives it up leaves it in hand
does_claim : (b : Bool) (c : ℕ) (q : NewNode) (v : View) → (after_claim b c q v).worker.operation ≡ v.worker.operation
does_claim true c q v = refl
does_claim false c q v = refl

does_flag : (b : Bool) (new : Fact) (x : ℕ) (u : Update) (v : View) → (after_flag b new x u v).worker.operation ≡ v.worker.operation
does_flag true new x u v = refl
does_flag false new x u v = refl

does_mark : (b : Bool) (c x : ℕ) (u : Update) (v : View) → (after_mark b c x u v).worker.operation ≡ v.worker.operation
does_mark true c x u v = refl
does_mark false c x u v = by (is_mark_of c u.state u.card)
  where
    by : (b : Bool) → (if b then with_fact (fact.Marked c) v else unmarking c x u v).worker.operation ≡ v.worker.operation
    by true = refl
    by false = refl

-- what a call makes of the operation in hand
abbrev Hand : Call → View → View → Type 0
Hand c v w = ((said : Reply) × (took : Option ℕ) × (c ≡ call.Answer said took)) ⊎ ((c ≡ call.Leave) ⊎ (w.worker.operation ≡ v.worker.operation))

hand_after : (plan : TablePlan) (c : Call) (n : ℕ) (v : View) → KeepsOn c → May plan c v → Hand c v (after c n v)
hand_after plan (call.Begin op) n v keeps may = absurd keeps
hand_after plan (call.Answer said took) n v keeps may = inl (said, took, refl)
hand_after plan call.Leave n v keeps may = inr (inl refl)
hand_after plan call.Rest n v keeps may = inr (inr (sym may))
hand_after plan (call.Claim c q) n v keeps may = inr (inr (does_claim (n == c) c q v))
hand_after plan (call.IFlag c p from) n v keeps may = inr (inr (does_flag (n == packed from) (fact.IFlagged c) p (unpacked n) v))
hand_after plan (call.DFlag c gp from) n v keeps may = inr (inr (does_flag (n == packed from) (fact.DFlagged c) gp (unpacked n) v))
hand_after plan (call.Mark c p was) n v keeps may = inr (inr (does_mark (n == was) c p (unpacked n) v))
hand_after plan _ n v keeps may = inr (inr refl)

-- a pass that has an operation in hand begins no other, and is not split or joined
keeps_of : (plan : TablePlan) (c : Call) (v : View) (op : Op) → Does v op → May plan c v → KeepsOn c
keeps_of plan (call.Begin o) v op does may = absurd (some_not_none does may.0)
keeps_of plan _ v op does may = tt

busy_keeps : (plan : TablePlan) (s : TableState) (seat : ℕ) (v : View) (op : Op) → get_elem? s.views seat ≡ some v → Does v op → (t : Turn) (s' : TableState)
    → TableTurns plan s t s' → Only KeepsOn seat t
busy_keeps plan s seat v op there does (Makes other c) s' h = λ same.
    let own : h.view ≡ v = some-injective h.view v (sym h.there ∙ (ap (get_elem? s.views) same ∙ there)) in
    keeps_of plan c v op does (subst (May plan c) own h.may)
busy_keeps plan s seat v op there does (Splits other left) s' h = λ same.
    let own : h.view ≡ v = some-injective h.view v (sym h.there ∙ (ap (get_elem? s.views) same ∙ there)) in
    some_not_none does (subst IsFree own h.free)
busy_keeps plan s seat v op there does (Joins one other) s' h = (
  λ same.
      let own : h.view ≡ v = some-injective h.view v (sym h.there ∙ (ap (get_elem? s.views) same ∙ there)) in
      some_not_none does (subst IsFree own h.free),
  λ same.
      let own : h.view' ≡ v = some-injective h.view' v (sym h.there' ∙ (ap (get_elem? s.views) same ∙ there)) in
      some_not_none does (subst IsFree own h.free'),
)

keep_one : (seat : ℕ) (t : Turn) → Only KeepsOn seat t → KeepOn seat (t ∷ [])
keep_one seat (Makes other c) h = (h, tt)
keep_one seat (Splits other left) h = (h, tt)
keep_one seat (Joins one other) h = (h.0, h.1, tt)

module _ (plan : TablePlan) (opened : TableState) (starts : Starts plan opened) (turns : List Turn) (s' : TableState) (run : TableRun plan opened turns s') where
  abbrev state : ℕ → TableState
  state = after_turns plan opened starts turns s' run

  -- a call that went on until here
  record GoesOn (seat i q : ℕ) (op : Op) : Type 0 where
    view : View
    there : get_elem? (state q).views seat ≡ some view
    does : Does view op
    on : KeepsOnBetween seat turns i q

  module _ (i p : ℕ) (op : Op) (changes : ChangesAt plan opened turns i p op) (unended : (end : ℕ) (o : Op) (said : Reply) → ¬ IsAnswered turns i end o said) where
    abbrev seat : ℕ
    seat = changes.by.work.seat

    -- one turn more
    goes : (q : ℕ) → i < q → (t : Turn) → get_elem? turns q ≡ some t → GoesOn seat i q op → GoesOn seat i (suc q) op
    goes q low t at h =
        let turn = made plan opened starts turns s' run q t at in
        let only = busy_keeps plan (state q) seat h.view op h.there h.does t (state (suc q)) turn in
        let next = turn_seat KeepsOn plan (state q) seat h.view h.there t (state (suc q)) turn only in
        record {
          view = next.view;
          there = next.there;
          does = elim next.made [
            | inl same ↦ subst (λ (w : View). Does w op) (sym same) h.does
            | inr c ↦ subst (λ (w : View). Does w op) (sym c.3) (by c.0 (hand_after plan c.0 (found_by (state q) c.0) h.view c.1 c.2) (at ∙ ap (λ (u : Turn). some u) c.4))
          ];
          on = more_on turns seat i q t at (keep_one seat t only) h.on;
        }
      where
        by : (c : Call) → Hand c h.view (after c (found_by (state q) c) h.view) → get_elem? turns q ≡ some (Makes seat c) → Does (after c (found_by (state q) c) h.view) op
        by c (inl says) here = absurd (unended q op says.0 (record {
          seat = seat;
          begins = changes.begins;
          later = low;
          on = h.on;
          took = says.1;
          answers = here ∙ ap (λ (x : Call). some (Makes seat x)) says.2;
        }))
        by c (inr (inl is)) here = absurd (given_up_calls_change_nothing plan opened starts turns s' run seat i q op (record {
          begins = changes.begins;
          later = low;
          on = h.on;
          leaves = here ∙ ap (λ (x : Call). some (Makes seat x)) is;
        }) p op changes)
        by c (inr (inr same)) here = same ∙ h.does

    goes_to : (n q : ℕ) → p + n ≡ q → q ≤ length turns → GoesOn seat i q op
    goes_to zero q e up =
        let k = changed_of plan opened starts turns s' run i p op changes in
        let same : p ≡ q = omega arith in
        subst (λ m. GoesOn seat i m op) same (record { view = k.view; there = k.there; does = k.does; on = k.on })
    goes_to (suc n) zero e up = absurd (omega arith)
    goes_to (suc n) (suc q) e up =
        let t = turn_inside turns q (omega arith) in
        let low = changes.later in
        goes q (omega arith) t.0 t.1 (goes_to n q (omega arith) (omega arith))

    -- a call that has changed the tree and has no answer is in hand at the end
    pub in_hand : p < length turns → ((j : ℕ) (u : View) → get_elem? s'.views j ≡ some u → IsFree u) → ⊥
    in_hand inside free =
        let n = length turns - p in
        let h = goes_to n (length turns) (omega arith) (omega arith) in
        some_not_none h.does (free seat h.view (ap (λ (s : TableState). get_elem? s.views seat) (at_end plan opened turns s' run) ∙ h.there))
