use Rattle.std.proofs.Common.{◌≡◌, ◌≢◌, ℕ, ◌⊎◌, ◌==◌, if◌then◌else◌, Bool, true, false, List, [], ◌∷◌, set, length-set, inl, inr, refl, sym, ap, ◌∙◌, subst, arith}
use Rattle.std.proofs.lemmas.Bool.{cases_eq}
use mathlib.Core.Option.{some, some-injective}
use lib.ListN.{get_elem?}
use Rattle.ell_runs.proofs.lemmas.words.Lists.{set_else}
use Rattle.ell_word.specs.Word.{packed, unpacked}
use Rattle.ell_word.specs.declared.update.Update.{Update}
use Rattle.ell_core.specs.declared.fact.Fact.{Fact}
use Rattle.ell_core.specs.declared.fact.Fact.TheVariants as fact
use Rattle.ell_core.proofs.lemmas.outcomes.Decide.{some_not_none}
use Rattle.ell_runs.specs.declared.call.Call.{Call}
use Rattle.ell_runs.specs.declared.call.Call.TheVariants as call
use Rattle.ell_runs.specs.declared.call.NewNode.{NewNode}
use Rattle.ell_runs.specs.declared.view.View.{View}
use Rattle.ell_runs.specs.Views.{IsFree}
use Rattle.ell_runs.specs.Changes.{after_claim, after_flag, after_mark, is_mark_of, with_fact, unmarking, left_view, right_view, joined_view, spent_view}
use Rattle.ell_runs.specs.Calls.{after, May}
use Rattle.ell_runs.specs.States.{TableState}
use Rattle.ell_runs.specs.Turns.{Turn, Makes, Splits, Joins, TableTurns, TableRun, found_by, view_after}
use Rattle.ell_runs.specs.Looking.{BeginsNothing, LooksOn}
use Rattle.ell_runs.proofs.lemmas.seats.Seats.{inside, set_there}
use Rattle.ell_runs.proofs.lemmas.lifetimes.Splits.{before_last}
use Rattle.ell_runs.specs.Plans.{TablePlan}

-- a pass with nothing in hand has nothing in hand afterwards, and the same ledger
pub record StaysFree (v w : View) : Type 0 where
  pub free : IsFree w
  pub ledger : w.worker.ledger ≡ v.worker.ledger

claim_free : (b : Bool) (c : ℕ) (q : NewNode) (v : View) → IsFree v → StaysFree v (after_claim b c q v)
claim_free true c q v free = record { free = free; ledger = refl }
claim_free false c q v free = record { free = free; ledger = refl }

flag_free : (b : Bool) (new : Fact) (x : ℕ) (u : Update) (v w : View) → w.worker ≡ (after_flag b new x u v).worker → IsFree v → StaysFree v w
flag_free true new x u v w same free = record { free = ap (λ k. k.operation) same ∙ free; ledger = ap (λ k. k.ledger) same }
flag_free false new x u v w same free = record { free = ap (λ k. k.operation) same ∙ free; ledger = ap (λ k. k.ledger) same }

mark_free : (b : Bool) (c x : ℕ) (u : Update) (v w : View) → w.worker ≡ (after_mark b c x u v).worker → IsFree v → StaysFree v w
mark_free true c x u v w same free = record { free = ap (λ k. k.operation) same ∙ free; ledger = ap (λ k. k.ledger) same }
mark_free false c x u v w same free = by (is_mark_of c u.state u.card) same
  where
    by : (b : Bool) → w.worker ≡ (if b then with_fact (fact.Marked c) v else unmarking c x u v).worker → StaysFree v w
    by true same = record { free = ap (λ k. k.operation) same ∙ free; ledger = ap (λ k. k.ledger) same }
    by false same = record { free = ap (λ k. k.operation) same ∙ free; ledger = ap (λ k. k.ledger) same }

-- so it stays by every call that begins nothing
pub call_free : (plan : TablePlan) (c : Call) (n : ℕ) (v : View) → BeginsNothing c → May plan c v → IsFree v → StaysFree v (after c n v)
call_free plan (call.Begin op) n v begins may free = absurd begins
call_free plan call.Look n v begins may free = absurd begins
call_free plan call.Rest n v begins may free = absurd begins
call_free plan call.Again n v begins may free = absurd (some_not_none may.busy free)
call_free plan call.Leave n v begins may free = absurd (some_not_none may.busy free)
call_free plan (call.Answer said took) n v begins may free = absurd (some_not_none may.busy free)
call_free plan (call.Claim c q) n v begins may free = claim_free (n == c) c q v free
call_free plan (call.IFlag c p from) n v begins may free = flag_free (n == packed from) (fact.IFlagged c) p (unpacked n) v (after (call.IFlag c p from) n v) refl free
call_free plan (call.DFlag c gp from) n v begins may free = flag_free (n == packed from) (fact.DFlagged c) gp (unpacked n) v (after (call.DFlag c gp from) n v) refl free
call_free plan (call.Mark c p was) n v begins may free = mark_free (n == was) c p (unpacked n) v (after (call.Mark c p was) n v) refl free
call_free plan _ n v begins may free = record { free = free; ledger = refl }

-- a turn in which the pass in a seat makes only such calls, and is not split or joined
abbrev pub Only : (Call → Type 0) → ℕ → Turn → Type 0
Only So seat (Makes other c) = other ≡ seat → So c
Only So seat (Splits other left) = other ≢ seat
Only So seat (Joins one other) = (one ≢ seat) × (other ≢ seat)

-- what such a turn makes of the pass in the seat: nothing, or it is such a call of the pass
pub record SeatGoesOn (So : Call → Type 0) (plan : TablePlan) (s : TableState) (seat : ℕ) (v : View) (t : Turn) (s' : TableState) : Type 0 where
  pub view : View
  pub there : get_elem? s'.views seat ≡ some view
  pub made : (view ≡ v) ⊎ ((c : Call) × So c × May plan c v × (view ≡ view_after s v c) × (t ≡ Makes seat c))

pub turn_seat : (So : Call → Type 0) (plan : TablePlan) (s : TableState) (seat : ℕ) (v : View) → get_elem? s.views seat ≡ some v → (t : Turn) (s' : TableState)
    → TableTurns plan s t s' → Only So seat t → SeatGoesOn So plan s seat v t s'
turn_seat So plan s seat v there (Makes other c) s' h on = elim (cases_eq seat other) [
  | inl e ↦
      let own : h.view ≡ v = some-injective h.view v (sym h.there ∙ (ap (get_elem? s.views) (sym e) ∙ there)) in
      record {
        view = view_after s v c;
        there = ap (λ (t : TableState). get_elem? t.views seat) h.gives ∙ (ap (λ i. get_elem? (set s.views i (view_after s h.view c)) seat) (sym e)
            ∙ (ap (λ u. get_elem? (set s.views seat (view_after s u c)) seat) own ∙ set_there s.views seat (view_after s v c) v there));
        made = inr (c, on (sym e), subst (λ u. May plan c u) own h.may, refl, ap (λ i. Makes i c) (sym e));
      }
  | inr n ↦ record {
    view = v;
    there = ap (λ (t : TableState). get_elem? t.views seat) h.gives ∙ (set_else s.views other seat (view_after s h.view c) n ∙ there);
    made = inl refl;
  }
]
turn_seat So cards s seat v there (Splits other left) s' h on =
    let less = inside s.views seat v there in
    record {
      view = v;
      there = ap (λ (t : TableState). get_elem? t.views seat) h.gives
          ∙ (before_last (set s.views other (left_view left h.view)) (right_view left h.view) seat (λ e. (let same = length-set s.views other (left_view left h.view) in omega arith))
          ∙ (set_else s.views other seat (left_view left h.view) (λ e. on (sym e)) ∙ there));
      made = inl refl;
    }
turn_seat So cards s seat v there (Joins one other) s' h on = record {
  view = v;
  there = ap (λ (t : TableState). get_elem? t.views seat) h.gives
      ∙ (set_else (set s.views one (joined_view h.view h.view')) other seat spent_view (λ e. on.1 (sym e))
      ∙ (set_else s.views one seat (joined_view h.view h.view') (λ e. on.0 (sym e)) ∙ there));
  made = inl refl;
}

-- so a pass that has nothing in hand has its ledger and nothing in hand
pub turn_free : (plan : TablePlan) (s : TableState) (seat : ℕ) (v : View) (t : Turn) (s' : TableState) (goes : SeatGoesOn BeginsNothing plan s seat v t s') → IsFree v
    → StaysFree v goes.view
turn_free plan s seat v t s' goes free = elim goes.made [
  | inl same ↦ subst (StaysFree v) (sym same) (record { free = free; ledger = refl })
  | inr c ↦ subst (StaysFree v) (sym c.3) (call_free plan c.0 (found_by s c.0) v c.1 c.2 free)
]

pub first_looks : (seat : ℕ) (t : Turn) (ts : List Turn) → LooksOn seat (t ∷ ts) → Only BeginsNothing seat t × LooksOn seat ts
first_looks seat (Makes other c) ts h = h
first_looks seat (Splits other left) ts h = h
first_looks seat (Joins one other) ts h = ((h.0, h.1), h.2)

-- over a run in which it begins nothing
pub record IsFreeStill (s : TableState) (seat : ℕ) (v : View) : Type 0 where
  pub view : View
  pub there : get_elem? s.views seat ≡ some view
  pub still : StaysFree v view

pub run_free : (plan : TablePlan) (s : TableState) (seat : ℕ) (v : View) → get_elem? s.views seat ≡ some v → IsFree v → (turns : List Turn) (s' : TableState)
    → TableRun plan s turns s' → LooksOn seat turns → IsFreeStill s' seat v
run_free plan s seat v there free [] s' run on =
    record { view = v; there = ap (λ (t : TableState). get_elem? t.views seat) run ∙ there; still = record { free = free; ledger = refl } }
run_free plan s seat v there free (t ∷ ts) s' run on =
    let looks = first_looks seat t ts on in
    let goes = turn_seat BeginsNothing plan s seat v there t run.0 run.1 looks.0 in
    let one = turn_free plan s seat v t run.0 goes free in
    let rest = run_free plan run.0 seat goes.view goes.there one.free ts s' run.2 looks.1 in
    record { view = rest.view; there = rest.there; still = record { free = rest.still.free; ledger = rest.still.ledger ∙ one.ledger } }
