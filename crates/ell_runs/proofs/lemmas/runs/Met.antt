use Rattle.std.proofs.Common.{◌+◌, ◌≡◌, ◌≢◌, ℕ, ◌==◌, if◌then◌else◌, Bool, true, false, Some, None, List, [], ◌∷◌, set, unwrap_or, refl, sym, ap, ◌∙◌, subst, ⊎_elim}
use mathlib.Core.Option.{some}
use lib.ListN.{get_elem?}
use Rattle.ell_runs.proofs.lemmas.words.Lists.{at_set}
use Rattle.ell_word.specs.Node.{IsInternal}
use Rattle.ell_word.specs.Link.{link_in}
use Rattle.ell_word.specs.Word.{packed, unpacked}
use Rattle.ell_word.specs.declared.update.Update.{Update}
use Rattle.ell_core.specs.declared.fact.Fact.{Fact}
use Rattle.ell_core.specs.declared.fact.Fact.TheVariants as fact
use Rattle.ell_core.specs.declared.view.Seen.{Seen}
use Rattle.ell_core.specs.declared.view.Search.{Search}
use Rattle.ell_core.specs.state.Machine.{no_search}
use Rattle.ell_core.proofs.lemmas.outcomes.Decide.{some_not_none}
use Rattle.ell_runs.specs.declared.call.Call.{Call}
use Rattle.ell_runs.specs.declared.call.Call.TheVariants as call
use Rattle.ell_runs.specs.declared.call.NewNode.{NewNode}
use Rattle.ell_runs.specs.declared.view.Told.{Told}
use Rattle.ell_runs.specs.declared.view.Told.TheVariants.{Met}
use Rattle.ell_runs.specs.declared.view.View.{View}
use Rattle.ell_runs.specs.Depths.{depth_told}
use Rattle.ell_runs.proofs.lemmas.views.Depths.{met_there}
use Rattle.ell_runs.specs.Plans.{TablePlan}
use Rattle.ell_runs.specs.Views.{latest, IsTold, IsFree}
use Rattle.ell_runs.specs.Changes.{first_of, left_view, right_view, joined_view, after_claim, after_flag, after_mark, is_mark_of, with_fact, unmarking}
use Rattle.ell_runs.specs.Calls.{after, May, seen_below}
use Rattle.ell_runs.specs.States.{TableState}
use Rattle.ell_runs.specs.Turns.{Turn, Makes, Splits, Joins, TableTurns, TableRun, found_by}
use Rattle.ell_runs.specs.Starts.{IsReached}
use Rattle.ell_runs.proofs.lemmas.lifetimes.Splits.{each_split}
use Rattle.ell_runs.proofs.lemmas.lifetimes.Joins.{each_joined}
use Rattle.ell_runs.proofs.lemmas.lifetimes.Openings.{each_first}
use Rattle.ell_runs.specs.Machines.{HasMachine}
use Rattle.ell_runs.proofs.lemmas.seats.Seats.{rests_nowhere}
use Rattle.ell_runs.proofs.lemmas.runs.Claims.{after_told}
use Rattle.ell_runs.proofs.lemmas.runs.Starting.{starts_are_kept}
use Rattle.ell_runs.proofs.lemmas.runs.TurnsOfRuns.{turn_lawful}

pub some_same : {A : Type 0} {a b : A} → Some a ≡ Some b → a ≡ b
some_same {a = a} e = ap (λ o. unwrap_or o a) e

-- a node that a search has gone through: an internal one that the pass has met
pub record IsPassed (v : View) (x : ℕ) : Type 0 where
  pub inner : IsInternal x
  pub met : IsTold v (Met x)

-- a search has met the node where it stands, and went through its parent and its grandparent
pub record SearchIsMet (v : View) : Type 0 where
  pub node : (x : ℕ) → v.worker.search.node ≡ Some x → IsTold v (Met x)
  pub parent : (seen : Seen) → v.worker.search.parent ≡ Some seen → IsPassed v seen.node
  pub grandparent : (seen : Seen) → v.worker.search.grandparent ≡ Some seen → IsPassed v seen.node

passed_still : (v w : View) → ((e : Told) → IsTold v e → IsTold w e) → (x : ℕ) → IsPassed v x → IsPassed w x
passed_still v w more x h = record { inner = h.inner; met = more (Met x) h.met }

-- where the pass was told no less, and stands where it stood or nowhere
met_still : (v w : View) → ((e : Told) → IsTold v e → IsTold w e) → ((x : ℕ) → w.worker.search.node ≡ Some x → v.worker.search.node ≡ Some x)
    → w.worker.search.parent ≡ v.worker.search.parent → w.worker.search.grandparent ≡ v.worker.search.grandparent → SearchIsMet v → SearchIsMet w
met_still v w more node parent grandparent h = record {
  node = λ x e. more (Met x) (h.node x (node x e));
  parent = λ seen e. passed_still v w more seen.node (h.parent seen (sym parent ∙ e));
  grandparent = λ seen e. passed_still v w more seen.node (h.grandparent seen (sym grandparent ∙ e));
}

-- where it stands nowhere, and came by no node
met_nowhere : (w : View) → w.worker.search.node ≡ None → w.worker.search.parent ≡ None → w.worker.search.grandparent ≡ None → SearchIsMet w
met_nowhere w node parent grandparent = record {
  node = λ x e. absurd (some_not_none e node);
  parent = λ seen e. absurd (some_not_none e parent);
  grandparent = λ seen e. absurd (some_not_none e grandparent);
}

met_root : (w : View) → w.worker.search.node ≡ Some 0 → IsTold w (Met 0) → w.worker.search.parent ≡ None → w.worker.search.grandparent ≡ None → SearchIsMet w
met_root w node met parent grandparent = record {
  node = λ x e. subst (λ y. IsTold w (Met y)) (some_same (sym node ∙ e)) met;
  parent = λ seen e. absurd (some_not_none e parent);
  grandparent = λ seen e. absurd (some_not_none e grandparent);
}

flag_met : (b : Bool) (new : Fact) (x : ℕ) (u : Update) (v w : View) → w.worker ≡ (after_flag b new x u v).worker → ((e : Told) → IsTold v e → IsTold w e)
    → SearchIsMet v → SearchIsMet w
flag_met true new x u v w same more h = met_still v w more (λ y e. absurd (some_not_none e (ap (λ k. k.search.node) same)))
    (ap (λ k. k.search.parent) same) (ap (λ k. k.search.grandparent) same) h
flag_met false new x u v w same more h = met_still v w more (λ y e. absurd (some_not_none e (ap (λ k. k.search.node) same)))
    (ap (λ k. k.search.parent) same) (ap (λ k. k.search.grandparent) same) h

mark_search : (b : Bool) (c x : ℕ) (u : Update) (v : View) → (after_mark b c x u v).worker.search ≡ v.worker.search
mark_search true c x u v = refl
mark_search false c x u v = by (is_mark_of c u.state u.card)
  where
    by : (b : Bool) → (if b then with_fact (fact.Marked c) v else unmarking c x u v).worker.search ≡ v.worker.search
    by true = refl
    by false = refl

claim_search : (b : Bool) (c : ℕ) (q : NewNode) (v : View) → (after_claim b c q v).worker.search ≡ v.worker.search
claim_search true c q v = refl
claim_search false c q v = refl

-- where it stands as it stood
met_same : (v w : View) → ((e : Told) → IsTold v e → IsTold w e) → w.worker.search ≡ v.worker.search → SearchIsMet v → SearchIsMet w
met_same v w more same = met_still v w more (λ x e. sym (ap (λ (k : Search). k.node) same) ∙ e) (ap (λ (k : Search). k.parent) same) (ap (λ (k : Search). k.grandparent) same)

-- the parent, once it went down from a node
seen_met : (below seen : Seen) → Some below ≡ Some seen → below.node ≡ seen.node
seen_met below seen e = ap (λ (k : Seen). k.node) (some_same e)

-- a search is kept as it is met by each call that remembers, and is nowhere where it may look
after_met : (plan : TablePlan) (c : Call) (n : ℕ) (v : View) → May plan c v → (IsFree v → v.worker.search ≡ no_search) → SearchIsMet v
    → SearchIsMet (after c n v)
after_met plan (call.Begin op) n v may rests h = met_root (after (call.Begin op) n v) refl (latest (Met 0) []) refl refl
after_met plan call.Again n v may rests h = met_root (after call.Again n v) refl (latest (Met 0) []) refl refl
after_met plan call.Leave n v may rests h = met_nowhere (after call.Leave n v) refl refl refl
after_met plan (call.Answer said took) n v may rests h = met_nowhere (after (call.Answer said took) n v) refl refl refl
after_met plan call.Rest n v may rests h = met_nowhere (after call.Rest n v) refl refl refl
after_met plan (call.Upd x) n v may rests h = met_still v (after (call.Upd x) n v) (after_told (call.Upd x) refl n v) (λ y e. e) refl refl h
after_met plan (call.Down x right) n v may rests h =
    let w = after (call.Down x right) n v in
    let more = after_told (call.Down x right) refl n v in record {
      node = λ y e. subst (λ z. IsTold w (Met z)) (some_same e) (met_there (depth_told v.told x + 1) (link_in n).node v.told);
      parent = λ seen e. subst (IsPassed w) (seen_met (seen_below v x n) seen e) (record { inner = may.inner; met = more (Met x) (h.node x may.stands) });
      grandparent = λ seen e. passed_still v w more seen.node (h.parent seen e);
    }
after_met plan (call.Claim c q) n v may rests h = met_same v (after (call.Claim c q) n v) (after_told (call.Claim c q) refl n v) (claim_search (n == c) c q v) h
after_met plan (call.IFlag c p from) n v may rests h =
    flag_met (n == packed from) (fact.IFlagged c) p (unpacked n) v (after (call.IFlag c p from) n v) refl (after_told (call.IFlag c p from) refl n v) h
after_met plan (call.DFlag c gp from) n v may rests h =
    flag_met (n == packed from) (fact.DFlagged c) gp (unpacked n) v (after (call.DFlag c gp from) n v) refl (after_told (call.DFlag c gp from) refl n v) h
after_met plan (call.Mark c p was) n v may rests h =
    met_same v (after (call.Mark c p was) n v) (after_told (call.Mark c p was) refl n v) (mark_search (n == was) c p (unpacked n) v) h
after_met plan call.Look n v may rests h =
    met_nowhere (after call.Look n v) (ap (λ (k : Search). k.node) (rests may)) (ap (λ (k : Search). k.parent) (rests may)) (ap (λ (k : Search). k.grandparent) (rests may))
after_met plan c n v may rests h = met_same v (after c n v) (after_told c refl n v) refl h

abbrev AllMet : TableState → Type 0
AllMet s = (j : ℕ) (v : View) → get_elem? s.views j ≡ some v → SearchIsMet v

turn_met : (plan : TablePlan) (s : TableState) → HasMachine plan s → (t : Turn) (s' : TableState) → TableTurns plan s t s' → AllMet s → AllMet s'
turn_met plan s r (Makes id c) s' turn h = λ j u at.
    let rests = rests_nowhere plan s r id turn.view turn.there in
    let w = after c (found_by s c) turn.view in
    let there : get_elem? (set s.views id w) j ≡ some u = subst (λ (x : TableState). get_elem? x.views j ≡ some u) turn.gives at in
    ⊎_elim
    (λ (t : (j ≡ id) × (w ≡ u)). subst SearchIsMet t.1 (after_met plan c (found_by s c) turn.view turn.may rests (h id turn.view turn.there)))
    (λ (t : (j ≢ id) × (get_elem? s.views j ≡ some u)). h j u t.1)
    (at_set s.views id j w u there)
turn_met plan s r (Splits id chosen) s' turn h =
    let left = left_view chosen turn.view in
    let right = right_view chosen turn.view in
    subst AllMet (sym turn.gives)
    (each_split s.views id turn.view turn.there left right SearchIsMet (met_nowhere left refl refl refl) (met_nowhere right refl refl refl) h)
turn_met plan s r (Joins id other) s' turn h =
    let both = joined_view turn.view turn.view' in
    subst AllMet (sym turn.gives)
    (each_joined s.views id other turn.view turn.view' turn.there turn.there' (λ e. turn.apart (sym e)) both SearchIsMet
    (met_nowhere both refl refl refl) (record { node = λ x e. absurd (some_not_none e refl); parent = λ seen e. absurd (some_not_none e refl); grandparent = λ seen e. absurd (some_not_none e refl) }) h)

run_met : (plan : TablePlan) (s : TableState) → HasMachine plan s → (turns : List Turn) (s' : TableState) → TableRun plan s turns s' → AllMet s → AllMet s'
run_met plan s r [] s' run h = subst AllMet (sym run) h
run_met plan s r (t ∷ ts) s' run h =
    run_met plan run.0 (turn_lawful plan s r t run.0 run.1).0 ts s' run.2 (turn_met plan s r t run.0 run.1 h)

-- so it is of each pass, wherever turns have led a table
pub searches_are_met : (plan : TablePlan) (s : TableState) → IsReached plan s → AllMet s
searches_are_met plan s h =
    run_met plan h.first (starts_are_kept plan h.first h.starts).kept h.turns s h.run
    (subst AllMet (sym h.starts.is) (each_first (first_of plan) SearchIsMet (met_nowhere (first_of plan) refl refl refl)))
