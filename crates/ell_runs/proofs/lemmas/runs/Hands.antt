use Rattle.std.proofs.Common.{◌≡◌, ◌≢◌, ◌⊎◌, ℕ, zero, suc, ◌+◌, ◌<◌, ◌≤◌, ◌==◌, if◌then◌else◌, Bool, true, false, Some, None, List, [], ◌∷◌, get_or, set, length, inl, inr, refl, sym, ap, ◌∙◌, subst, ⊎_elim, eq-eqb, eqb-true, arith}
use mathlib.Core.Option.{some, some-injective, some-ne-none}
use lib.ListN.{get_elem?}
use Rattle.ell_runs.proofs.lemmas.words.Lists.{at_set}
use Rattle.ell_core.specs.declared.exchange.Exchange.{Exchange}
use Rattle.ell_core.specs.declared.exchange.Exchange.TheVariants as exchange
use Rattle.ell_word.specs.Word.{packed, unpacked}
use Rattle.ell_word.specs.declared.update.Update.{Update}
use Rattle.ell_core.specs.declared.fact.Fact.{Fact}
use Rattle.ell_core.specs.declared.fact.Fact.TheVariants as fact
use Rattle.ell_core.proofs.lemmas.outcomes.Decide.{some_not_none}
use Rattle.ell_runs.specs.declared.call.Call.{Call}
use Rattle.ell_runs.specs.declared.call.Call.TheVariants as call
use Rattle.ell_runs.specs.declared.call.NewNode.{NewNode}
use Rattle.ell_runs.specs.declared.view.View.{View}
use Rattle.ell_runs.specs.Changes.{first_of, left_view, right_view, joined_view, spent_view, after_claim, after_flag, after_mark, is_mark_of, with_fact, unmarking}
use Rattle.ell_runs.specs.Calls.{after, May}
use Rattle.ell_runs.specs.States.{TableState}
use Rattle.ell_runs.specs.Turns.{Turn, Makes, Splits, Joins, TableTurns, TableRun, found_by}
use Rattle.ell_runs.specs.Starts.{IsReached}
use Rattle.ell_runs.proofs.lemmas.lifetimes.Splits.{each_split}
use Rattle.ell_runs.proofs.lemmas.lifetimes.Joins.{each_joined}
use Rattle.ell_runs.proofs.lemmas.lifetimes.Openings.{each_first}
use Rattle.ell_runs.proofs.lemmas.runs.Reaching.{reached_on}
use Rattle.ell_runs.proofs.lemmas.runs.Met.{some_same}
use Rattle.ell_runs.proofs.lemmas.runs.Won.{times, times_in, won_by, after_won, times_append}
use Rattle.ell_runs.proofs.lemmas.runs.Counts.{ClaimsCount, claims_are_counted, claims_none}
use Rattle.ell_runs.specs.Plans.{TablePlan}

-- a card in hand was claimed by the pass; and the card that the claim word told to be the next was not, while it is not in hand and the pass stands
-- somewhere
pub record HandIsClaimed (v : View) : Type 0 where
  pub held : (c : ℕ) → v.worker.card ≡ Some c → 0 < times exchange.Claim c v.won
  pub read : (n x : ℕ) → v.next ≡ Some n → v.worker.card ≢ Some n → v.worker.search.node ≡ Some x → times exchange.Claim n v.won ≡ 0

-- the pass has no other card in hand than it had, and what it has read of the claim word, if it stands somewhere without that card, it had so
record KeepsHand (v w : View) : Type 0 where
  held : (c : ℕ) → w.worker.card ≡ Some c → v.worker.card ≡ Some c
  read : (n x : ℕ) → w.next ≡ Some n → w.worker.card ≢ Some n → w.worker.search.node ≡ Some x
      → (v.next ≡ Some n) × (v.worker.card ≢ Some n) × (y : ℕ) × (v.worker.search.node ≡ Some y)

-- where it stands nowhere, or has read nothing
keeps_nowhere : (v w : View) → ((c : ℕ) → w.worker.card ≡ Some c → v.worker.card ≡ Some c) → w.worker.search.node ≡ None → KeepsHand v w
keeps_nowhere v w held node = record { held = held; read = λ n x e no at. absurd (some_not_none at node) }

keeps_all : (v w : View) → w.worker.card ≡ v.worker.card → w.next ≡ v.next → w.worker.search.node ≡ v.worker.search.node → KeepsHand v w
keeps_all v w card next node = record { held = λ c e. sym card ∙ e; read = λ n x e no at. (sym next ∙ e, λ has. no (card ∙ has), x, sym node ∙ at) }

flag_keeps : (b : Bool) (new : Fact) (x : ℕ) (u : Update) (v w : View) → w.worker ≡ (after_flag b new x u v).worker → KeepsHand v w
flag_keeps true new x u v w same = keeps_nowhere v w (λ c e. sym (ap (λ k. k.card) same) ∙ e) (ap (λ k. k.search.node) same)
flag_keeps false new x u v w same =
    keeps_nowhere v w (λ c e. absurd (some_not_none e (ap (λ k. k.card) same))) (ap (λ k. k.search.node) same)

mark_keeps : (b : Bool) (c x : ℕ) (u : Update) (v w : View) → w.worker ≡ (after_mark b c x u v).worker → w.next ≡ (after_mark b c x u v).next → KeepsHand v w
mark_keeps true c x u v w same next = keeps_all v w (ap (λ k. k.card) same) next (ap (λ k. k.search.node) same)
mark_keeps false c x u v w same next = by (is_mark_of c u.state u.card) same next
  where
    by : (b : Bool) → w.worker ≡ (if b then with_fact (fact.Marked c) v else unmarking c x u v).worker
        → w.next ≡ (if b then with_fact (fact.Marked c) v else unmarking c x u v).next → KeepsHand v w
    by true same next = keeps_all v w (ap (λ k. k.card) same) next (ap (λ k. k.search.node) same)
    by false same next = keeps_all v w (ap (λ k. k.card) same) next (ap (λ k. k.search.node) same)

-- each call but a claim and the reading of the claim word does
call_keeps : (plan : TablePlan) (c : Call) (n : ℕ) (v : View) → May plan c v → ((d : ℕ) (q : NewNode) → c ≢ call.Claim d q) → c ≢ call.Next → KeepsHand v (after c n v)
call_keeps plan (call.Begin op) n v may apart other = record { held = λ c e. absurd (some_not_none e refl); read = λ m x e no at. absurd (some_not_none e refl) }
call_keeps plan call.Again n v may apart other = record { held = λ c e. absurd (some_not_none e refl); read = λ m x e no at. absurd (some_not_none e refl) }
call_keeps plan call.Leave n v may apart other = keeps_nowhere v (after call.Leave n v) (λ c e. absurd (some_not_none e refl)) refl
call_keeps plan (call.Answer said took) n v may apart other = keeps_nowhere v (after (call.Answer said took) n v) (λ c e. absurd (some_not_none e refl)) refl
call_keeps plan call.Rest n v may apart other = keeps_nowhere v (after call.Rest n v) (λ c e. absurd (some_not_none e refl)) refl
call_keeps plan (call.Down x right) n v may apart other = record { held = λ c e. e; read = λ m y e no at. (e, no, x, may.stands) }
call_keeps plan call.Next n v may apart other = absurd (other refl)
call_keeps plan (call.Claim c q) n v may apart other = absurd (apart c q refl)
call_keeps plan (call.IFlag c p from) n v may apart other =
    flag_keeps (n == packed from) (fact.IFlagged c) p (unpacked n) v (after (call.IFlag c p from) n v) refl
call_keeps plan (call.DFlag c gp from) n v may apart other =
    flag_keeps (n == packed from) (fact.DFlagged c) gp (unpacked n) v (after (call.DFlag c gp from) n v) refl
call_keeps plan (call.Mark c p was) n v may apart other =
    mark_keeps (n == was) c p (unpacked n) v (after (call.Mark c p was) n v) refl refl
call_keeps plan c n v may apart other = keeps_all v (after c n v) refl refl refl

-- a card in hand after a call was there before it, or the call has claimed it
pub call_held : (plan : TablePlan) (c : Call) (n : ℕ) (v : View) → May plan c v → (d : ℕ) → (after c n v).worker.card ≡ Some d
    → (v.worker.card ≡ Some d) ⊎ (((q : NewNode) × (c ≡ call.Claim d q)) × (n ≡ d))
call_held plan (call.Claim c q) n v may d has = by (n == c) refl has
  where
    by : (b : Bool) → (n == c) ≡ b → (after_claim b c q v).worker.card ≡ Some d → (v.worker.card ≡ Some d) ⊎ (((k : NewNode) × (call.Claim c q ≡ call.Claim d k)) × (n ≡ d))
    by true e has = let same = some_same has in inr ((q, ap (λ x. call.Claim x q) same), eqb-true n c e ∙ same)
    by false e has = inl has
call_held plan call.Next n v may d has = inl has
call_held plan c n v may d has = inl ((call_keeps plan c n v may (λ d q e. (cc)) (λ e. (cc))).held d has)

-- a call that is no claim leaves the claims that the pass won
pub claims_same : (c : Call) (n : ℕ) (v : View) → ((d : ℕ) (q : NewNode) → c ≢ call.Claim d q) → (e : ℕ) → times exchange.Claim e (after c n v).won ≡ times exchange.Claim e v.won
claims_same c n v apart e =
    let won = ap (times exchange.Claim e) (after_won c n v) in
    let parts = times_append exchange.Claim e (won_by c n) v.won in
    let none = claims_none c n e apart in
    omega arith

keeps_claimed : (c : Call) (n : ℕ) (v : View) → ((d : ℕ) (q : NewNode) → c ≢ call.Claim d q) → KeepsHand v (after c n v) → HandIsClaimed v → HandIsClaimed (after c n v)
keeps_claimed c n v apart keeps h = record {
  held = λ e has. subst (λ m. 0 < m) (sym (claims_same c n v apart e)) (h.held e (keeps.held e has));
  read = λ e x read no at. let was = keeps.read e x read no at in claims_same c n v apart e ∙ h.read e was.2 was.0 was.1 was.3;
}

claim_claimed : (b : Bool) (c : ℕ) (q : NewNode) (v : View) → v.next ≡ Some c → HandIsClaimed v → HandIsClaimed (after_claim b c q v)
claim_claimed true c q v next h = record {
  held = λ d has. subst (λ (b : Bool). 0 < (if b then 1 else 0) + times exchange.Claim d v.won) (sym (eq-eqb d c (sym (some_same has)))) (omega arith);
  read = λ n x e other at. absurd (other (sym next ∙ e));
}
claim_claimed false c q v next h = record { held = h.held; read = h.read }

after_claimed : (plan : TablePlan) (c : Call) (n : ℕ) (v : View) → May plan c v → (c ≡ call.Next → times exchange.Claim n v.won ≡ 0) → HandIsClaimed v → HandIsClaimed (after c n v)
after_claimed plan (call.Claim c q) n v may fresh h = claim_claimed (n == c) c q v may.0.read h
after_claimed plan call.Next n v may fresh h = record {
  held = h.held;
  read = λ m x e no at. ap (λ k. times exchange.Claim k v.won) (sym (some_same e)) ∙ fresh refl;
}
after_claimed cards c n v may fresh h = keeps_claimed c n v (λ d q e. (cc)) (call_keeps cards c n v may (λ d q e. (cc)) (λ e. (cc))) h

-- what one view counts is in the sum
pub one_in : (k : Exchange) (c : ℕ) (vs : List View) (i : ℕ) (v : View) → get_elem? vs i ≡ some v → times k c v.won ≤ times_in k c vs
one_in k c [] i v e = absurd (some-ne-none v (sym e))
one_in k c (x ∷ vs) zero v e = let same = ap (λ (u : View). times k c u.won) (some-injective x v e) in omega arith
one_in k c (x ∷ vs) (suc i) v e = let h = one_in k c vs i v e in omega arith

-- and what two count
pub two_in : (k : Exchange) (c : ℕ) (vs : List View) (i j : ℕ) (v w : View) → get_elem? vs i ≡ some v → get_elem? vs j ≡ some w → i ≢ j
    → times k c v.won + times k c w.won ≤ times_in k c vs
two_in k c [] i j v w e f n = absurd (some-ne-none v (sym e))
two_in k c (x ∷ vs) zero zero v w e f n = absurd (n refl)
two_in k c (x ∷ vs) zero (suc j) v w e f n =
    let same = ap (λ (u : View). times k c u.won) (some-injective x v e) in let h = one_in k c vs j w f in omega arith
two_in k c (x ∷ vs) (suc i) zero v w e f n =
    let same = ap (λ (u : View). times k c u.won) (some-injective x w f) in let h = one_in k c vs i v e in omega arith
two_in k c (x ∷ vs) (suc i) (suc j) v w e f n = let rest = two_in k c vs i j v w e f (λ same. n (ap suc same)) in omega arith

-- so it is of each pass
abbrev pub AllClaimed : TableState → Type 0
AllClaimed s = (j : ℕ) (v : View) → get_elem? s.views j ≡ some v → HandIsClaimed v

-- of a view with nothing in hand
claimed_nowhere : (w : View) → w.worker.card ≡ None → w.worker.search.node ≡ None → HandIsClaimed w
claimed_nowhere w card node = record { held = λ c e. absurd (some_not_none e card); read = λ n x e no at. absurd (some_not_none at node) }

turn_claimed : (plan : TablePlan) (first : ℕ) (s : TableState) → ClaimsCount first s → (t : Turn) (s' : TableState) → TableTurns plan s t s' → AllClaimed s → AllClaimed s'
turn_claimed plan first s counts (Makes id c) s' turn h = λ j u at.
    let w = after c (found_by s c) turn.view in
    let there : get_elem? (set s.views id w) j ≡ some u = subst (λ (x : TableState). get_elem? x.views j ≡ some u) turn.gives at in
    ⊎_elim
    (λ (t : (j ≡ id) × (w ≡ u)). subst HandIsClaimed t.1 (after_claimed plan c (found_by s c) turn.view turn.may
    (λ e. fresh e) (h id turn.view turn.there)))
    (λ (t : (j ≢ id) × (get_elem? s.views j ≡ some u)). h j u t.1)
    (at_set s.views id j w u there)
  where
    fresh : c ≡ call.Next → times exchange.Claim (found_by s c) turn.view.won ≡ 0
    fresh e =
        let n = found_by s c in
        let is : get_or s.words 0 0 ≡ n = ap (found_by s) (sym e) in
        let none = counts.high n (omega arith) in
        let one = one_in exchange.Claim n s.views id turn.view turn.there in
        omega arith
turn_claimed plan first s counts (Splits id chosen) s' turn h =
    let left = left_view chosen turn.view in
    let right = right_view chosen turn.view in
    subst AllClaimed (sym turn.gives)
    (each_split s.views id turn.view turn.there left right HandIsClaimed (claimed_nowhere left refl refl) (claimed_nowhere right refl refl) h)
turn_claimed plan first s counts (Joins id other) s' turn h =
    let both = joined_view turn.view turn.view' in
    subst AllClaimed (sym turn.gives)
    (each_joined s.views id other turn.view turn.view' turn.there turn.there' (λ e. turn.apart (sym e)) both HandIsClaimed
    (claimed_nowhere both refl refl) (claimed_nowhere spent_view refl refl) h)

run_claimed : (plan : TablePlan) (s : TableState) → IsReached plan s → (turns : List Turn) (s' : TableState)
    → TableRun plan s turns s' → AllClaimed s → AllClaimed s'
run_claimed plan s reached [] s' run h = subst AllClaimed (sym run) h
run_claimed plan s reached (t ∷ ts) s' run h =
    run_claimed plan run.0 (reached_on plan s reached t run.0 run.1) ts s' run.2
    (turn_claimed plan (length plan.start) s (claims_are_counted plan s reached) t run.0 run.1 h)

-- the start of a run that leads somewhere was reached
pub first_reached : (plan : TablePlan) (s : TableState) (h : IsReached plan s) → IsReached plan h.first
first_reached plan s h = record { first = h.first; starts = h.starts; turns = []; run = refl }

-- wherever turns have led a table, a card in hand was claimed by its pass
pub hands_are_claimed : (plan : TablePlan) (s : TableState) → IsReached plan s → AllClaimed s
hands_are_claimed plan s h =
    run_claimed plan h.first (first_reached plan s h) h.turns s h.run
    (subst AllClaimed (sym h.starts.is) (each_first (first_of plan) HandIsClaimed (claimed_nowhere (first_of plan) refl refl)))
