use Rattle.std.proofs.Common.{◌≡◌, ◌≢◌, ℕ, true, None, Some, Option, List, [], ◌∷◌, filter, not, set, inl, inr, ◌⊎◌, refl, sym, ap, ap₂, ◌∙◌, subst, ⊎_elim}
use mathlib.Core.Option.{some, some-injective}
use lib.ListN.{get_elem?}
use Rattle.ell_runs.proofs.lemmas.words.Lists.{at_set}
use Rattle.ell_ops.specs.declared.op.Op.{Op}
use Rattle.ell_ops.specs.KeySet.{set_of}
use Rattle.ell_ops.specs.Meaning.{key_of}
use Rattle.ell_core.specs.declared.view.Entry.{Entry}
use Rattle.ell_core.specs.state.Machine.{ledger_of, shared_of, worker_of}
use Rattle.ell_core.specs.soundness.Sound.{MayChange}
use Rattle.ell_core.proofs.lemmas.outcomes.Decide.{some_not_none}
use Rattle.std.specs.Option.{option_or}
use Rattle.std.proofs.lemmas.Bool.{false≢true}
use Rattle.ell_runs.specs.declared.call.Call.{Call}
use Rattle.ell_runs.specs.declared.call.Call.TheVariants as call
use Rattle.ell_runs.specs.declared.view.View.{View}
use Rattle.ell_runs.specs.Plans.{TablePlan}
use Rattle.ell_runs.specs.Views.{IsFree, whole_share}
use Rattle.ell_runs.specs.Changes.{first_of, ownable_if, left_view, right_view, joined_view, united_ledgers}
use Rattle.ell_runs.specs.Calls.{after, May}
use Rattle.ell_runs.specs.States.{TableState}
use Rattle.ell_runs.specs.Turns.{Turn, Makes, Splits, Joins, TableTurns, TableRun, found_by}
use Rattle.ell_runs.specs.Starts.{IsReached}
use Rattle.ell_runs.specs.Looking.{BeginsNothing}
use Rattle.ell_runs.proofs.lemmas.seats.Staying.{owned_stays}
use Rattle.ell_runs.proofs.lemmas.lifetimes.Splits.{each_split}
use Rattle.ell_runs.proofs.lemmas.lifetimes.Joins.{each_joined}
use Rattle.ell_runs.proofs.lemmas.lifetimes.Openings.{each_first}
use Rattle.ell_runs.proofs.lemmas.runs.OwnSeat.{call_free}
use Rattle.ell_runs.proofs.lemmas.runs.Shares.{alone_with_the_whole}

-- a pass that has nothing: it was joined to another
pub record IsSpent (v : View) : Type 0 where
  pub free : IsFree v
  pub ledger : v.worker.ledger ≡ []

-- so is each that takes no key for a shared one
abbrev pub SpentAreSpent : TableState → Type 0
SpentAreSpent s = (j : ℕ) (u : View) → get_elem? s.views j ≡ some u → u.worker.shared ≡ None → IsSpent u

other : (plan : TablePlan) (c : Call) (n : ℕ) (v : View) → BeginsNothing c → May plan c v → IsSpent v → IsSpent (after c n v)
other plan c n v begins may spent =
    let h = call_free plan c n v begins may spent.free in
    record { free = h.free; ledger = h.ledger ∙ spent.ledger }

begins_none : (op : Op) (v : View) → MayChange (worker_of v.worker) (key_of op) → v.worker.shared ≡ None → v.worker.ledger ≡ [] → ⊥
begins_none op v (inl owns) none empty = owns (ap (λ (l : List (ℕ × Entry)). ledger_of l (key_of op)) empty)
begins_none op v (inr shared) none empty = false≢true (sym (ap (λ o. shared_of o (key_of op)) none) ∙ shared)

-- it may begin nothing, so it stays so
call_spent : (plan : TablePlan) (c : Call) (n : ℕ) (v : View) → May plan c v → v.worker.shared ≡ None → IsSpent v → IsSpent (after c n v)
call_spent plan (call.Begin op) n v may none spent = absurd (begins_none op v may.1 none spent.ledger)
call_spent plan call.Look n v may none spent = record { free = spent.free; ledger = spent.ledger }
call_spent plan call.Rest n v may none spent = record { free = refl; ledger = spent.ledger }
call_spent plan (call.Answer said took) n v may none spent = absurd (some_not_none may.busy spent.free)
call_spent plan call.Again n v may none spent = absurd (some_not_none may.busy spent.free)
call_spent plan call.Leave n v may none spent = absurd (some_not_none may.busy spent.free)
call_spent plan (call.Claim c q) n v may none spent = other plan (call.Claim c q) n v tt may spent
call_spent plan (call.IFlag c p from) n v may none spent = other plan (call.IFlag c p from) n v tt may spent
call_spent plan (call.DFlag c gp from) n v may none spent = other plan (call.DFlag c gp from) n v tt may spent
call_spent plan (call.Mark c p was) n v may none spent = other plan (call.Mark c p was) n v tt may spent
call_spent plan _ n v may none spent = record { free = spent.free; ledger = spent.ledger }

-- where neither of two passes takes a key for a shared one, the two as one do not
pub neither : (l m : Option (List ℕ)) → option_or l m ≡ None → (l ≡ None) × (m ≡ None)
neither None m e = (refl, e)
neither (Some l) m e = absurd (some_not_none refl e)

turn_spent : (plan : TablePlan) (s : TableState) (t : Turn) (s' : TableState) → TableTurns plan s t s' → SpentAreSpent s → SpentAreSpent s'
turn_spent plan s (Makes id c) s' turn h = λ j u at none.
    let w = after c (found_by s c) turn.view in
    let there : get_elem? (set s.views id w) j ≡ some u = subst (λ (x : TableState). get_elem? x.views j ≡ some u) turn.gives at in
    ⊎_elim
    (λ (t : (j ≡ id) × (w ≡ u)).
    let closed = sym (owned_stays c (found_by s c) turn.view) ∙ (ap (λ (x : View). x.worker.shared) t.1 ∙ none) in
    subst IsSpent t.1 (call_spent plan c (found_by s c) turn.view turn.may closed (h id turn.view turn.there closed)))
    (λ (t : (j ≢ id) × (get_elem? s.views j ≡ some u)). h j u t.1 none)
    (at_set s.views id j w u there)
turn_spent plan s (Splits id chosen) s' turn h =
    let v = turn.view in
    subst SpentAreSpent (sym turn.gives) (each_split s.views id v turn.there (left_view chosen v) (right_view chosen v) (λ u. u.worker.shared ≡ None → IsSpent u)
    (λ none. let spent = h id v turn.there none in record {
      free = refl;
      ledger = ap (filter (λ (e : ℕ × Entry). set_of chosen e.0)) spent.ledger;
    })
    (λ none. let spent = h id v turn.there none in record {
      free = refl;
      ledger = ap (filter (λ (e : ℕ × Entry). not (set_of chosen e.0))) spent.ledger;
    })
    h)
turn_spent plan s (Joins id other) s' turn h =
    let v = turn.view in
    let w = turn.view' in
    subst SpentAreSpent (sym turn.gives) (each_joined s.views id other v w turn.there turn.there' (λ e. turn.apart (sym e)) (joined_view v w)
    (λ u. u.worker.shared ≡ None → IsSpent u)
    (λ none.
    let both = neither v.worker.shared w.worker.shared none in
    let one = h id v turn.there both.0 in
    let two = h other w turn.there' both.1 in record {
      free = refl;
      ledger = ap₂ united_ledgers one.ledger two.ledger;
    })
    (λ none. record { free = refl; ledger = refl })
    h)

run_spent : (plan : TablePlan) (s : TableState) (turns : List Turn) (s' : TableState) → TableRun plan s turns s' → SpentAreSpent s → SpentAreSpent s'
run_spent plan s [] s' run h = subst SpentAreSpent (sym run) h
run_spent plan s (t ∷ ts) s' run h = run_spent plan run.0 ts s' run.2 (turn_spent plan s t run.0 run.1 h)

-- so it is wherever turns have led a table that shares its keys
pub spent_are_spent : (plan : TablePlan) (s : TableState) → plan.shared ≡ true → IsReached plan s → SpentAreSpent s
spent_are_spent plan s mode h = run_spent plan h.first h.turns s h.run (subst SpentAreSpent (sym h.starts.is)
    (each_first (first_of plan) (λ u. u.worker.shared ≡ None → IsSpent u)
    (λ none. absurd (some_not_none (ap (λ b. ownable_if b plan.keys) mode) none))))

-- where one pass has the whole share, and nothing in hand, nobody has anything in hand, and no other takes a key for a shared one
pub record IsAllThere (s : TableState) (seat : ℕ) : Type 0 where
  pub free : (j : ℕ) (u : View) → get_elem? s.views j ≡ some u → IsFree u
  pub alone : (j : ℕ) (u : View) → get_elem? s.views j ≡ some u → (j ≡ seat) ⊎ (u.worker.shared ≡ None)

pub all_there : (plan : TablePlan) (s : TableState) → plan.shared ≡ true → IsReached plan s → (seat : ℕ) (v : View) → get_elem? s.views seat ≡ some v
    → v.share ≡ whole_share → IsFree v → IsAllThere s seat
all_there plan s mode h seat v here whole free =
    let spent = spent_are_spent plan s mode h in
    let alone = alone_with_the_whole plan s h seat v here whole in record {
      free = λ j u at. elim (alone j u at) [
        | inl same ↦ subst IsFree (some-injective v u (sym here ∙ (ap (get_elem? s.views) (sym same) ∙ at))) free
        | inr none ↦ (spent j u at none).free
      ];
      alone = alone;
    }
