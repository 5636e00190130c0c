use Rattle.std.proofs.Common.{◌≡◌, ℕ, ◌==◌, eq-eqb, ne_eqb, if◌then◌else◌, Bool, true, false, [], ◌∷◌, ◌++◌, Some, refl, sym, ap, ◌∙◌, subst, inl, inr, arith}
use mathlib.Core.Option.{Option, some, none}
use lib.ListN.{get_elem?}
use Rattle.ell_ops.specs.declared.op.Op.{Op}
use Rattle.ell_ops.specs.declared.op.Op.TheVariants.{Find, Insert, Delete, Swap}
use Rattle.ell_word.specs.Link.{linked}
use Rattle.ell_word.specs.Node.{left_leaf, right_leaf}
use Rattle.ell_core.specs.declared.exchange.Exchange.{Exchange}
use Rattle.ell_core.specs.declared.exchange.Exchange.TheVariants as exchange
use Rattle.ell_core.specs.declared.event.Act.{Act}
use Rattle.ell_core.specs.declared.event.Act.TheVariants as act
use Rattle.ell_layout.specs.Words.{Words}
use Rattle.ell_core.specs.state.Machine.{Worker, worker_of}
use Rattle.ell_layout.specs.Cards.{card_key, card_value}
use Rattle.ell_core.specs.acts.Exchanges.{won_or_lost}
use Rattle.ell_core.specs.soundness.Sound.{IsInHand}
use Rattle.ell_core.specs.history.Stages.{Stage, Stages, is_insert, is_delete, insert_open, delete_open}
use Rattle.ell_core.specs.history.Invariant.{WorkerIsSound, Flagged}
use Rattle.ell_core.specs.history.Later.{wins_of}
use Rattle.ell_core.specs.acts.Wins.{wins_by}
use Rattle.ell_core.proofs.lemmas.following.Lawful.{events_lawful}
use Rattle.ell_core.proofs.lemmas.outcomes.Decide.{cases_option, some_not_none}
use Rattle.ell_core.proofs.lemmas.stages.Holding.{insert_kind, delete_kind}
use Rattle.ell_core.proofs.lemmas.stages.Order.{insert_open-insert, delete_open-delete, insert_won-insert, delete_won-delete}
use Rattle.ell_core.proofs.lemmas.words.Sides.{card_key-insert, card_value-insert, card_key-delete}
use Rattle.ell_runs.specs.Plans.{TablePlan}
use Rattle.ell_runs.specs.declared.call.Call.TheVariants as call
use Rattle.ell_runs.specs.declared.view.View.{View}
use Rattle.ell_runs.specs.Calls.{Becomes}
use Rattle.ell_runs.specs.States.{TableState, seat_worker}
use Rattle.ell_runs.specs.Machines.{HasMachine}
use Rattle.ell_runs.specs.Laws.{machine_of_table}
use Rattle.ell_runs.specs.Turns.{found_by, state_after}
use Rattle.ell_core.specs.statements.Effects.{op_brought, op_of_card}
use Rattle.ell_runs.specs.TurnEffects.{IsAtWork, ChangeIsOf}
use Rattle.ell_runs.proofs.lemmas.seats.Statements.{OperationsByMachine}
use Rattle.ell_runs.proofs.lemmas.stepping.AllCalls.{steps_are_events}
use Rattle.ell_runs.proofs.lemmas.own_words.OwnWords.{own_card_key, own_card_op}
use Rattle.ell_runs.proofs.lemmas.seats.Seats.{mine_sound}

-- a card that wins its ichild has its insert's flag standing
before_ichild : (s later : Stage) → wins_of later ≡ wins_of s ++ exchange.IChild ∷ [] → insert_open s ≡ true
before_ichild s later h = grind arith

-- one that wins its dchild its delete's flag
before_dchild : (s later : Stage) → wins_of later ≡ wins_of s ++ exchange.DChild ∷ [] → delete_open s ≡ true
before_dchild s later h = grind arith

-- no card is both an insert's and a delete's
one_kind : (s : Stage) → is_insert s ≡ true → is_delete s ≡ true → ⊥
one_kind s a b = grind arith

-- a worker with a card in hand has an operation in hand
busy_with : (w : Words) (stage : Stages) (v : Worker) (c : ℕ) → WorkerIsSound w stage v → v.card ≡ Some c → (op : Op) × (v.operation ≡ Some op)
busy_with w stage v c sound has = elim (cases_option v.operation) [
  | inl op ↦ op
  | inr e ↦ absurd (some_not_none has (ap (λ (u : Worker). u.card) (sound.free e)))
]

module _ (plan : TablePlan) (s : TableState) (r : HasMachine plan s) where
  -- the operation of a flagged card, by its kind
  inserts : (v : Worker) (op : Op) (c : ℕ) → is_insert (r.stages c) ≡ true → Flagged r.words r.stages v op c
      → op ≡ op_of_card r.words c
  inserts v (Find k) c is h = absurd h
  inserts v (Insert k value) c is h =
      let kind = insert_kind r.words r.stages r.invariant.words c is in
      let two = ne_eqb (r.words.key (left_leaf c)) (r.words.key (right_leaf c)) (λ e. let less = h.4 in omega arith) in
      (λ i. Insert (sym (card_key-insert r.words c kind ∙ h.1) i) (sym (card_value-insert r.words c kind ∙ h.2) i))
      ∙ sym (ap (λ b. op_brought b (card_key r.words c) (r.words.value (r.words.l c)) (card_value r.words c)) two)
  inserts v (Swap k was value) c is h =
      let kind = insert_kind r.words r.stages r.invariant.words c is in
      let one = eq-eqb (r.words.key (left_leaf c)) (r.words.key (right_leaf c)) h.4.0 in
      (λ i. Swap (sym (card_key-insert r.words c kind ∙ h.1) i) (sym h.4.1 i) (sym (card_value-insert r.words c kind ∙ h.2) i))
      ∙ sym (ap (λ b. op_brought b (card_key r.words c) (r.words.value (r.words.l c)) (card_value r.words c)) one)
  inserts v (Delete k) c is h = absurd (one_kind (r.stages c) is (delete_won-delete (r.stages c) h.0))

  deletes : (v : Worker) (op : Op) (c : ℕ) → is_delete (r.stages c) ≡ true → Flagged r.words r.stages v op c → op ≡ Delete (card_key r.words c)
  deletes v (Find k) c is h = absurd h
  deletes v (Insert k value) c is h = absurd (one_kind (r.stages c) (insert_won-insert (r.stages c) h.0) is)
  deletes v (Swap k was value) c is h = absurd (one_kind (r.stages c) (insert_won-insert (r.stages c) h.0) is)
  deletes v (Delete k) c is h = ap Delete (sym h.1 ∙ sym (card_key-delete r.words c (delete_kind r.words r.stages r.invariant.words c is)))

  -- whoever has the card in hand, flagged, is at work with it
  at_work : (c : ℕ) (Q : Op → Type 0) → ((v : Worker) (o : Op) → Flagged r.words r.stages v o c → Q o) → IsInHand (machine_of_table plan s r) c
      → (op : Op) × Q op × IsAtWork s c op
  at_work c Q which hand = by hand.worker (get_elem? s.views hand.worker) refl hand.holds hand.flagged
    where
      by : (i : ℕ) (o : Option View) → get_elem? s.views i ≡ o → (seat_worker o).card ≡ Some c → (seat_worker o).flagged ≡ true
          → (op : Op) × Q op × IsAtWork s c op
      by i none e has flagged = absurd (some_not_none has refl)
      by i (some v) e has flagged =
          let sound = mine_sound plan s r i v e in
          let busy = busy_with r.words r.stages (worker_of v.worker) c sound has in (
            busy.0,
            which (worker_of v.worker) busy.0 (sound.flagged busy.0 c busy.1 has flagged).0,
            record { seat = i; view = v; there = e; does = busy.1; holds = has; flagged = flagged },
          )

  -- a card that wins has this win after those before
  won_by : (id : ℕ) (a : Act) (c : ℕ) (k : Exchange) (s' : TableState) (r' : HasMachine plan s')
      → Becomes id (Some a) (won_or_lost true) (machine_of_table plan s r) (machine_of_table plan s' r')
      → wins_by a ((machine_of_table plan s r).worker id).card (won_or_lost true) c ≡ k ∷ []
      → (later : Stage) × (wins_of later ≡ wins_of (r.stages c) ++ k ∷ [])
  won_by id a c k s' r' steps is =
      let follows = (events_lawful (machine_of_table plan s r) r.stages (record { worker = id; act = a }) (won_or_lost true)
      (machine_of_table plan s' r') r.invariant steps).follows in
      (follows.stages c, follows.wins c ∙ ap (λ ks. wins_of (r.stages c) ++ ks) is)

-- one win, of this card
one_win : (c : ℕ) (k : Exchange) → (if c == c then k ∷ [] else []) ≡ k ∷ []
one_win c k = ap (λ b. if b then k ∷ [] else []) (eq-eqb c c refl)

pub table_changes_are_operations : OperationsByMachine
table_changes_are_operations plan s r id v (call.IChild c p l replaces right) here may =
    let step = steps_are_events plan s r id v (call.IChild c p l replaces right) here may in by step.kept (found_by s (call.IChild c p l replaces right) == linked l) step.event
  where
    by : (r' : HasMachine plan (state_after s id v (call.IChild c p l replaces right))) (b : Bool)
        → Becomes id (Some (act.IChild c)) (won_or_lost b) (machine_of_table plan s r) (machine_of_table plan (state_after s id v (call.IChild c p l replaces right)) r')
        → ChangeIsOf (call.IChild c p l replaces right) b s
    by r' true h =
        let won = won_by plan s r id (act.IChild c) c exchange.IChild (state_after s id v (call.IChild c p l replaces right)) r' h (one_win c exchange.IChild) in
        let opened = before_ichild (r.stages c) won.0 won.1 in
        let work = at_work plan s r c (λ o. o ≡ op_of_card r.words c)
        (λ u o f. inserts plan s r u o c (insert_open-insert (r.stages c) opened) f) (r.invariant.workers.insert_in_hand c opened) in
        subst (IsAtWork s c) (work.1 ∙ sym (own_card_op plan s r id c v here (inl may.knows))) work.2
    by r' false h = tt
table_changes_are_operations plan s r id v (call.DChild c gp p y right) here may =
    let step = steps_are_events plan s r id v (call.DChild c gp p y right) here may in by step.kept (found_by s (call.DChild c gp p y right) == linked p) step.event
  where
    by : (r' : HasMachine plan (state_after s id v (call.DChild c gp p y right))) (b : Bool)
        → Becomes id (Some (act.DChild c)) (won_or_lost b) (machine_of_table plan s r) (machine_of_table plan (state_after s id v (call.DChild c gp p y right)) r')
        → ChangeIsOf (call.DChild c gp p y right) b s
    by r' true h =
        let won = won_by plan s r id (act.DChild c) c exchange.DChild (state_after s id v (call.DChild c gp p y right)) r' h (one_win c exchange.DChild) in
        let opened = before_dchild (r.stages c) won.0 won.1 in
        let work = at_work plan s r c (λ o. o ≡ Delete (card_key r.words c))
        (λ u o f. deletes plan s r u o c (delete_open-delete (r.stages c) opened) f) (r.invariant.workers.delete_in_hand c opened) in
        let own = own_card_key plan s r id c v here (inr (inr may.knows)) in
        subst (IsAtWork s c) (work.1 ∙ ap Delete (sym own)) work.2
    by r' false h = tt
table_changes_are_operations plan s r id v _ here may = tt
