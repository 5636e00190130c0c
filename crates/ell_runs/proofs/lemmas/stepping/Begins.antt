use Rattle.std.proofs.Common.{◌≡◌, ◌≢◌, ◌⊎◌, ◌==◌, Bool, true, false, set, if◌then◌else◌, ℕ, eq-eqb, ne_eqb, List, Option, Some, None, refl, sym, ap, ◌∙◌, subst, inl, inr, arith}
use Rattle.ell_core.proofs.lemmas.stages.LaterKeys.{start_there}
use mathlib.Core.Option.{some}
use lib.ListN.{get_elem?}
use Rattle.ell_ops.specs.declared.op.Op.{Op}
use Rattle.ell_ops.specs.declared.op.Op.TheVariants.{Find, Insert, Delete, Swap}
use Rattle.ell_ops.specs.Meaning.{key_of}
use Rattle.ell_core.specs.declared.event.Act.TheVariants as act
use Rattle.ell_core.specs.declared.event.Event.{Event}
use Rattle.ell_core.specs.declared.event.Stepped.TheVariants.{Moved, Answered}
use Rattle.ell_core.specs.state.Facts.{known_of}
use Rattle.ell_core.specs.state.Machine.{Worker, Ledger, worker_of, ledger_of}
use Rattle.ell_core.specs.acts.Searching.{leaf_answer, value_at, card_answer, settled, ledger_after, HasAnswer, MayStop}
use Rattle.ell_core.specs.acts.Events.{Happens}
use Rattle.ell_core.specs.statements.Effects.{reply_of_change, AnswersAsMap}
use Rattle.ell_core.proofs.lemmas.outcomes.Decide.{some_not_none}
use Rattle.ell_core.proofs.lemmas.following.Lawful.{events_lawful}
use Rattle.ell_runs.specs.Plans.{TablePlan}
use Rattle.ell_runs.specs.declared.call.Call.TheVariants as call
use Rattle.ell_runs.specs.declared.view.Told.TheVariants.{Value}
use Rattle.ell_runs.specs.declared.view.View.{View}
use Rattle.ell_runs.specs.Changes.{with_entry as with_entry_for, after_begin, after_again, after_leave, after_answer, answered_ledger, with_entry as put_entry}
use Rattle.ell_runs.specs.Guards.{MayBegin, MayAnswer, TellsOf, KnowsAnswerAtLeaf, KnowsAnswerByCard, CardIsOver}
use Rattle.ell_runs.specs.Views.{Knows, KnewBefore}
use Rattle.ell_layout.specs.Words.{Words}
use Rattle.ell_core.specs.declared.fact.Fact.{Fact}
use Rattle.ell_core.specs.declared.fact.Fact.TheVariants.{DOver}
use Rattle.ell_core.specs.history.Stages.{Stages, Born}
use Rattle.ell_core.specs.statements.Walks.{Avoids}
use Rattle.ell_core.proofs.lemmas.following.Walks.{roots_avoid}
use Rattle.ell_core.proofs.lemmas.stages.Ended.{over-cut}
use Rattle.std.proofs.lemmas.Option.{same_Some}
use Rattle.ell_runs.specs.States.{TableState, seated, seat_worker}
use Rattle.ell_runs.specs.Machines.{over_before, HasMachine}
use Rattle.ell_runs.specs.Laws.{IsEvent}
use Rattle.ell_runs.proofs.lemmas.seats.Seats.{leads, machine, mine, becomes, mine_is, mine_sound, set_there}
use Rattle.ell_runs.proofs.lemmas.seats.Frames.{Onward, looks, is_event}
use Rattle.ell_runs.proofs.lemmas.lifetimes.Idle.{forgotten_holds}
use Rattle.ell_runs.proofs.lemmas.stepping.Looks.{here_key}
use Rattle.ell_runs.proofs.lemmas.stepping.Settling.{settled_put, settled_none}
use Rattle.ell_core.specs.declared.view.Entry.{Entry}
use Rattle.ell_core.specs.declared.view.Entry.TheVariants.{Present, Absent}
use Rattle.ell_ops.specs.declared.reply.Reply.{Reply}
use Rattle.ell_ops.specs.declared.reply.Reply.TheVariants.{Yes, No, Found}
use Rattle.std.proofs.lemmas.Bool.{false≢true}
use Rattle.ell_runs.proofs.lemmas.words.Addresses.{key_address}

-- a view with no key told where it stands and no card in hand
bare : (w : Words) (stage : Stages) (v after : View) → after.here ≡ None → after.worker.card ≡ None
    → ((k : ℕ) → ledger_of after.worker.ledger k ≢ None → ledger_of v.worker.ledger k ≢ None)
    → after.worker.shared ≡ v.worker.shared → ((n : ℕ) → after.next ≡ Some n → v.next ≡ Some n) → after.next_at_least ≡ v.next_at_least → ((f : Fact) → KnewBefore after f → Knows v f) → ((f : Fact) → KnewBefore after f → Knows after f)
    → ((op : Op) (x : ℕ) → after.worker.operation ≡ Some op → after.worker.search.node ≡ Some x
    → Born stage x × Avoids w (over_before after) (key_of op) x) → Onward w stage v after
bare w stage v after no_key no_card owns list read least before knew walk = record {
  here = λ y key at told. absurd (some_not_none told no_key);
  hand = λ c has un. absurd (some_not_none has no_card);
  owns = owns;
  list = list;
  read = read;
  least = least;
  before = before;
  knew = knew;
  walk = walk;
}

module _ (plan : TablePlan) (s : TableState) (r : HasMachine plan s) (id : ℕ) (v : View) (here : get_elem? s.views id ≡ some v) where
  -- where a search begins, its walk comes by nothing that was cut out
  root_walk : (op : Op) (x : ℕ) → Some 0 ≡ Some x → Born r.stages x × Avoids r.words (λ c. known_of v.worker.knows (DOver c)) (key_of op) x
  root_walk op x at = subst (λ y. Born r.stages y × Avoids r.words (λ c. known_of v.worker.knows (DOver c)) (key_of op) y) (same_Some 0 x at) (
    start_there r.words r.stages r.invariant.words 0 (omega arith) refl,
    roots_avoid (machine plan s r id v here) r.stages (λ c. known_of v.worker.knows (DOver c)) (key_of op) r.invariant
        (λ c has. over-cut (r.stages c) ((mine_sound plan s r id v here).facts (DOver c) has)),
  )

  -- begin
  pub keeps_begin : (op : Op) → MayBegin v op → IsEvent plan s r id v (call.Begin op)
  keeps_begin op may =
      let after = after_begin (Some op) v in
      let happens : Happens plan.last_card (act.Begin op) (mine plan s r id v here) Moved (becomes plan s r id v here r.words after) = record {
        owned = λ lacks. elim may.1 [ inl owns ↦ owns lacks.0 | inr shared ↦ false≢true (sym lacks.1 ∙ shared) ];
        row = record { free = may.0; says = refl; gives = refl };
        room = λ h. h;
      } in
      is_event plan s r id v here (call.Begin op) (act.Begin op) Moved r.words
      (looks plan s r id v here (act.Begin op) Moved after happens (λ c. refl) (forgotten_holds r.words r.stages r.invariant.words)
      (bare r.words r.stages v after refl refl (λ k h. h) refl (λ n at. absurd (some_not_none at refl)) refl (λ f k. k) (λ f k. k) (λ o x busy at. root_walk o x at)) (key_address 0))
      refl refl tt

  -- again
  pub keeps_again : MayStop (worker_of v.worker) → IsEvent plan s r id v call.Again
  keeps_again may =
      let after = after_again v in
      let happens : Happens plan.last_card act.Again (mine plan s r id v here) Moved (becomes plan s r id v here r.words after) = record {
        owned = λ h. h;
        row = record { may = record { op = may.op; busy = may.busy; backed = may.backed }; says = refl; gives = refl };
        room = λ h. h;
      } in
      is_event plan s r id v here call.Again act.Again Moved r.words
      (looks plan s r id v here act.Again Moved after happens (λ c. refl) (forgotten_holds r.words r.stages r.invariant.words)
      (bare r.words r.stages v after refl refl (λ k h. h) refl (λ n at. absurd (some_not_none at refl)) refl (λ f k. k) (λ f k. k) (λ o x busy at. root_walk o x at)) (key_address 0))
      refl refl tt

  -- leave
  pub keeps_leave : MayStop (worker_of v.worker) → IsEvent plan s r id v call.Leave
  keeps_leave may =
      let after = after_leave v in
      let happens : Happens plan.last_card act.Leave (mine plan s r id v here) Moved (becomes plan s r id v here r.words after) = record {
        owned = λ h. h;
        row = record { may = record { op = may.op; busy = may.busy; backed = may.backed }; says = refl; gives = refl };
        room = λ h. h;
      } in
      is_event plan s r id v here call.Leave act.Leave Moved r.words
      (looks plan s r id v here act.Leave Moved after happens (λ c. refl) (forgotten_holds r.words r.stages r.invariant.words)
      (bare r.words r.stages v after refl refl (λ k h. h) refl (λ n at. at) refl (r.views id v here).knew (r.views id v here).knew (λ o x busy at. absurd (some_not_none at refl))) (key_address 0))
      refl refl (let low = (r.views id v here).least in let room = r.invariant.limit in omega arith)

-- a ledger with an entry in place of that of a key, if it has the key, as a list and as the machine has it
settled_by : (k : ℕ) (made : Entry) (l : List (ℕ × Entry)) (key : ℕ) (entry : Option Entry) → ledger_of l k ≡ entry
    → ledger_of (with_entry_for k made l) key ≡ settled (ledger_of l) k made entry key
settled_by k made l key None e = settled_none k made l e key
settled_by k made l key (Some entry) e = settled_put k made l (λ none. some_not_none e none) key

-- the ledger after an answer, as a list and as the machine has it
answered : (op : Op) (said : Reply) (l : List (ℕ × Entry)) → (key : ℕ)
    → ledger_of (answered_ledger (Some op) said l) key ≡ ledger_after op said (ledger_of l) key
answered (Find k) said l key = refl
answered (Insert k value) Yes l key = settled_by k (Present value) l key (ledger_of l k) refl
answered (Insert k value) No l key = refl
answered (Insert k value) (Found had) l key = refl
answered (Delete k) Yes l key = settled_by k Absent l key (ledger_of l k) refl
answered (Delete k) No l key = refl
answered (Delete k) (Found had) l key = refl
answered (Swap k was value) Yes l key = refl
answered (Swap k was value) No l key = refl
answered (Swap k was value) (Found had) l key = by (had == was)
  where
    by : (b : Bool) → ledger_of (if b then put_entry k (Present value) l else l) key
        ≡ (if b then settled (ledger_of l) k (Present value) (ledger_of l k) else ledger_of l) key
    by true = settled_by k (Present value) l key (ledger_of l k) refl
    by false = refl

-- the answer by a card that is over
over_answers : (v : View) (op : Op) (c : ℕ) (said : Reply) → CardIsOver v op c → said ≡ reply_of_change op → card_answer op c (known_of v.worker.knows) ≡ Some said
over_answers v (Find k) c said over e = absurd over
over_answers v (Insert k value) c said over e = ap (λ b. if b then Some Yes else None) over ∙ ap Some (sym e)
over_answers v (Swap k was value) c said over e = ap (λ b. if b then Some (Found was) else None) over ∙ ap Some (sym e)
over_answers v (Delete k) c said over e = ap (λ b. if b then Some Yes else None) over ∙ ap Some (sym e)

module _ (plan : TablePlan) (s : TableState) (r : HasMachine plan s) (id : ℕ) (v : View) (here : get_elem? s.views id ≡ some v) where
  -- what the leaf has of a key, by what the pass was told of it
  leaf_has : (leaf key k : ℕ) (there : Option ℕ) → r.words.key leaf ≡ key → TellsOf v leaf key k there → value_at r.words leaf k ≡ there
  leaf_has leaf key k None is other =
      ap (λ b. if b then Some (r.words.value leaf) else None) (ne_eqb (r.words.key leaf) k (λ e. other (sym is ∙ e)))
  leaf_has leaf key k (Some value) is same =
      ap (λ b. if b then Some (r.words.value leaf) else None) (eq-eqb (r.words.key leaf) k (is ∙ same.0))
      ∙ ap Some ((r.views id v here).entries (Value leaf value) same.1).1

  -- the machine's answer
  answers_now : (op : Op) (said : Reply) → v.worker.operation ≡ Some op → KnowsAnswerAtLeaf v op said ⊎ KnowsAnswerByCard v op said
      → HasAnswer (mine plan s r id v here) op said
  answers_now op said busy (inl a) = inl (record {
    leaf = a.leaf;
    stands = a.stands;
    outer = a.outer;
    answers = ap (leaf_answer op) (leaf_has a.leaf a.key (key_of op) a.there (here_key plan s r id v here a.leaf a.key a.stands a.told) a.tells) ∙ a.says;
  })
  answers_now op said busy (inr a) = inr (
    record { card = a.card; holds = a.holds; flagged = a.flagged; answers = over_answers v op a.card said a.over a.says },
    λ b h. some_not_none h.stands ((mine_sound plan s r id v here).flagged op a.card busy a.holds a.flagged).1,
  )

  -- answer
  pub keeps_answer : (said : Reply) (took : Option ℕ) → MayAnswer v said took → IsEvent plan s r id v (call.Answer said took)
  keeps_answer said took may =
      let after = after_answer said took v in
      let same = mine_is plan s r id v here in
      let sound = mine_sound plan s r id v here in
      let ledger : (key : ℕ) → ledger_of after.worker.ledger key ≡ ledger_after may.op said (ledger_of v.worker.ledger) key =
      λ key. ap (λ o. ledger_of (answered_ledger o said v.worker.ledger) key) may.busy ∙ answered may.op said v.worker.ledger key in
      let happens : Happens plan.last_card act.Answer (mine plan s r id v here) (Answered said) (becomes plan s r id v here r.words after) = record {
        owned = λ h. h;
        row = record {
          op = may.op;
          reply = said;
          busy = may.busy;
          answers = answers_now may.op said may.busy may.answers;
          says = refl;
          gives = λ t. record { words = r.words; worker = record (worker_of after.worker) { ledger = λ key. ledger key t } };
        };
        room = λ h. h;
      } in
      let m = machine plan s r id v here in
      let l = leads plan s r id v here act.Answer (Answered said) r.words after happens in
      let e : Event = record { worker = id; act = act.Answer } in
      let told = (events_lawful m r.stages e (Answered said) (seated r.words (set s.views id after) plan.last_card) r.invariant l.1.steps).ledgers.0 in
      let now : (seat_worker (get_elem? (set s.views id after) id)).ledger ≡ ledger_of after.worker.ledger =
      ap (λ o. (seat_worker o).ledger) (set_there s.views id after v here) in
      let set_now : AnswersAsMap (worker_of v.worker) (ledger_of after.worker.ledger) said =
      subst (λ (l : Ledger). AnswersAsMap (worker_of v.worker) l said) now
      (subst (λ (u : Worker). AnswersAsMap u (seat_worker (get_elem? (set s.views id after) id)).ledger said) same told) in
      is_event plan s r id v here (call.Answer said took) act.Answer (Answered said) r.words
      (looks plan s r id v here act.Answer (Answered said) after happens (λ c. refl)
      (forgotten_holds r.words r.stages r.invariant.words)
      (bare r.words r.stages v after refl refl (λ k has none. has ((set_now.owned k).1 none)) refl (λ n at. at) refl (r.views id v here).knew (r.views id v here).knew
      (λ o x busy at. absurd (some_not_none at refl))) (key_address 0))
      refl refl (set_now, (let low = (r.views id v here).least in let room = r.invariant.limit in omega arith))
