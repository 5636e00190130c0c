use Rattle.std.proofs.Common.{◌≡◌, ◌≢◌, ℕ, ◌↔◌, ◌==◌, if◌then◌else◌, Bool, true, false, Option, Some, None, inl, inr, refl, sym, ap, ◌∙◌, subst, arith}
use Rattle.std.proofs.lemmas.Bool.{eq-eqb}
use Rattle.ell_ops.specs.declared.op.Op.{Op}
use Rattle.ell_ops.specs.declared.op.Op.TheVariants.{Find, Insert, Delete, Swap}
use Rattle.ell_ops.specs.Meaning.{key_of}
use Rattle.ell_core.specs.declared.event.Act.TheVariants as act
use Rattle.ell_core.specs.declared.fact.Fact.TheVariants as fact
use Rattle.ell_layout.specs.Words.{put}
use Rattle.ell_core.specs.state.Machine.{Ledger, Worker, Machine, scene, with_scene}
use Rattle.ell_core.specs.acts.Searching.{leaf_answer, card_answer, settled, ledger_after, AnswersAtLeaf, HasAnswer}
use Rattle.ell_core.specs.soundness.Holds.{with_made}
use Rattle.ell_core.specs.soundness.Sound.{WorkerOwns}
use Rattle.ell_core.specs.history.Stages.{Stage, Stages, insert_open, insert_over, delete_open, delete_over, made_by_stage, effective_at, effective_at_of}
use Rattle.ell_core.specs.history.Invariant.{Invariant}
use Rattle.ell_core.specs.history.Later.{Follows}
use Rattle.ell_core.specs.acts.Wins.{wins_by}
use Rattle.ell_core.proofs.lemmas.outcomes.Decide.{same_value, some_not_none}
use Rattle.ell_core.proofs.lemmas.keeping.search.Begin.{MayDrop, drops_backed, takes_on_ended}
use Rattle.ell_core.proofs.lemmas.keeping.Learning.{KnowsAllowed}
use Rattle.ell_core.proofs.lemmas.keeping.OneWorker.{HasInHand, follows_worker}
use Rattle.ell_layout.proofs.lemmas.Writes.{put_cases, put_other}
use Rattle.ell_core.specs.declared.view.Entry.{Entry}
use Rattle.ell_core.specs.declared.view.Entry.TheVariants.{Present, Absent}
use Rattle.ell_ops.specs.declared.reply.Reply.{Reply}
use Rattle.ell_ops.specs.declared.reply.Reply.TheVariants.{Yes, Found}
use Rattle.ell_core.proofs.lemmas.keeping.KeepsInvariant.{KeepsInvariant}

-- an option that a failed test gives
pub gives_else : (test : Bool) (given reply : Reply) → (if test then None else Some given) ≡ Some reply → (test ≡ false) × (reply ≡ given)
gives_else true given reply e = absurd (some_not_none e refl)
gives_else false given reply e = (refl, sym (same_value refl e))

-- one that a test gives
pub gives_one : (test : Bool) (given reply : Reply) → (if test then Some given else None) ≡ Some reply → (test ≡ true) × (reply ≡ given)
gives_one true given reply e = (refl, sym (same_value refl e))
gives_one false given reply e = absurd (some_not_none e refl)

-- an answer at a leaf leaves the ledger
pub leaf_answer-ledger : (op : Op) (there : Option ℕ) (reply : Reply) (ledger : Ledger) → leaf_answer op there ≡ Some reply
    → ledger_after op reply ledger ≡ ledger
leaf_answer-ledger (Find k) there reply ledger e = refl
leaf_answer-ledger (Insert k value) (Some v) reply ledger e = ap (λ b. ledger_after (Insert k value) b ledger) (sym (same_value refl e))
leaf_answer-ledger (Insert k value) None reply ledger e = absurd (some_not_none e refl)
leaf_answer-ledger (Delete k) (Some v) reply ledger e = absurd (some_not_none e refl)
leaf_answer-ledger (Delete k) None reply ledger e = ap (λ b. ledger_after (Delete k) b ledger) (sym (same_value refl e))
leaf_answer-ledger (Swap k was value) None reply ledger e = ap (λ b. ledger_after (Swap k was value) b ledger) (sym (same_value refl e))
leaf_answer-ledger (Swap k was value) (Some v) reply ledger e =
    let g = gives_else (v == was) (Found v) reply e in
    ap (λ b. ledger_after (Swap k was value) b ledger) g.1 ∙ ap (λ t. if t then settled ledger k (Present value) (ledger k) else ledger) g.0

-- an option that a test gives or not: the test was met, and this is what it gives
pub gives_if : (test : Bool) (reply : Reply) → (if test then Some Yes else None) ≡ Some reply → (test ≡ true) × (reply ≡ Yes)
gives_if true reply e = (refl, sym (same_value refl e))
gives_if false reply e = absurd (some_not_none e refl)

-- a card that may be answered by is over, and made its key what the answer makes it
pub record IsOver (op : Op) (s : Stage) (made : Entry) : Type 0 where
  pub made_it : made_by_stage op s ≡ Some made
  pub no_insert : insert_open s ≡ false
  pub no_delete : delete_open s ≡ false

insert_is_over : (k value : ℕ) (s : Stage) → insert_over s ≡ true → IsOver (Insert k value) s (Present value)
insert_is_over k value s h = record { made_it = grind arith; no_insert = grind arith; no_delete = grind arith }

swap_is_over : (k was value : ℕ) (s : Stage) → insert_over s ≡ true → IsOver (Swap k was value) s (Present value)
swap_is_over k was value s h = record { made_it = grind arith; no_insert = grind arith; no_delete = grind arith }

delete_is_over : (k : ℕ) (s : Stage) → delete_over s ≡ true → IsOver (Delete k) s Absent
delete_is_over k s h = record { made_it = grind arith; no_insert = grind arith; no_delete = grind arith }

-- the effective ledger of a worker with a flagged card in hand
effective_in_hand : (stage : Stages) (v : Worker) (op : Op) (c : ℕ) → v.operation ≡ Some op → v.card ≡ Some c → v.flagged ≡ true
    → effective_at stage v ≡ effective_at_of stage v.ledger (Some op) (Some c) true
effective_in_hand stage v op c busy holds flagged =
    ap (λ o. effective_at_of stage v.ledger o v.card v.flagged) busy
    ∙ (ap (λ o. effective_at_of stage v.ledger (Some op) o v.flagged) holds
    ∙ ap (effective_at_of stage v.ledger (Some op) (Some c)) flagged)

module _ (stage : Stages) (v : Worker) (op : Op) (c : ℕ) (made : Entry) (busy : v.operation ≡ Some op)
    (holds : v.card ≡ Some c) (flagged : v.flagged ≡ true) (over : IsOver op (stage c) made) where
  -- the ledger after an answer by a card that is over, for a key that the ledger has
  abbrev ledger : Ledger
  ledger = put v.ledger (key_of op) (Some made)

  -- the same keys are owned
  owned_alike : WorkerOwns v (key_of op) → (k : ℕ) → (ledger k ≢ None) ↔ WorkerOwns v k
  owned_alike owns k = put_cases (λ o. (o ≢ None) ↔ WorkerOwns v k) v.ledger (key_of op) (Some made) k
      (λ e. (λ n. subst (WorkerOwns v) (sym e) owns, λ n f. some_not_none refl f)) (λ n. (λ o. o, λ o. o))

  -- a card in hand is this one
  hand_is : (d : ℕ) → HasInHand v d → c ≡ d
  hand_is d h = same_value holds h.holds

  -- its effective ledger
  effective_is : effective_at stage v ≡ ledger
  effective_is = effective_in_hand stage v op c busy holds flagged ∙ ap (with_made v.ledger (key_of op)) over.made_it

  -- a worker whose card is over may drop it, and has the effective ledger, of its own keys
  drops_by : (entry : Option Entry) → v.ledger (key_of op) ≡ entry → MayDrop stage v (settled v.ledger (key_of op) made entry)
  drops_by None e = record {
    owns = λ k. (λ o. o, λ o. o);
    counts = λ k owns. ap (λ f. f k) effective_is ∙ put_other v.ledger (key_of op) (Some made) k (λ same. owns (ap v.ledger same ∙ e));
    inserts = λ d h. subst (λ n. insert_open (stage n) ≡ false) (hand_is d h) over.no_insert;
    deletes = λ d h. subst (λ n. delete_open (stage n) ≡ false) (hand_is d h) over.no_delete;
  }
  drops_by (Some entry) e = record {
    owns = owned_alike (λ none. some_not_none e none);
    counts = λ k owns. ap (λ f. f k) effective_is;
    inserts = λ d h. subst (λ n. insert_open (stage n) ≡ false) (hand_is d h) over.no_insert;
    deletes = λ d h. subst (λ n. delete_open (stage n) ≡ false) (hand_is d h) over.no_delete;
  }

  pub drops_over : MayDrop stage v (settled v.ledger (key_of op) made (v.ledger (key_of op)))
  drops_over = drops_by (v.ledger (key_of op)) refl

-- an answer by a card of an insert or delete: the card is over
drops_by_card : (stage : Stages) (v : Worker) (op : Op) (c : ℕ) (reply : Reply) → KnowsAllowed stage v.knows
    → v.operation ≡ Some op → v.card ≡ Some c → v.flagged ≡ true → card_answer op c v.knows ≡ Some reply
    → MayDrop stage v (ledger_after op reply v.ledger)
drops_by_card stage v (Find k) c reply facts busy holds flagged e = absurd (some_not_none e refl)
drops_by_card stage v (Insert k value) c reply facts busy holds flagged e =
    let g = gives_if (v.knows (fact.IOver c)) reply e in
    subst (λ b. MayDrop stage v (ledger_after (Insert k value) b v.ledger)) (sym g.1)
    (drops_over stage v (Insert k value) c (Present value) busy holds flagged (insert_is_over k value (stage c) (facts (fact.IOver c) g.0)))
drops_by_card stage v (Delete k) c reply facts busy holds flagged e =
    let g = gives_if (v.knows (fact.DOver c)) reply e in
    subst (λ b. MayDrop stage v (ledger_after (Delete k) b v.ledger)) (sym g.1)
    (drops_over stage v (Delete k) c Absent busy holds flagged (delete_is_over k (stage c) (facts (fact.DOver c) g.0)))
drops_by_card stage v (Swap k was value) c reply facts busy holds flagged e =
    let g = gives_one (v.knows (fact.IOver c)) (Found was) reply e in
    subst (λ b. MayDrop stage v (ledger_after (Swap k was value) b v.ledger)) (sym g.1)
    (subst (λ t. MayDrop stage v (if t then settled v.ledger k (Present value) (v.ledger k) else v.ledger)) (sym (eq-eqb was was refl))
    (drops_over stage v (Swap k was value) c (Present value) busy holds flagged (swap_is_over k was value (stage c) (facts (fact.IOver c) g.0))))

module _ (m : Machine) (stage : Stages) (i : ℕ) (sound : Invariant m stage) (op : Op) (reply : Reply)
    (busy : (m.worker i).operation ≡ Some op) where
  -- an answer at a leaf: no card in hand is flagged
  drops_at_leaf : AnswersAtLeaf (scene m i) op reply → MayDrop stage (m.worker i) (ledger_after op reply (m.worker i).ledger)
  drops_at_leaf at = subst (MayDrop stage (m.worker i)) (sym (leaf_answer-ledger op _ reply (m.worker i).ledger at.answers))
      (drops_backed stage (m.worker i)
      (λ c holds f. absurd (some_not_none at.stands ((sound.workers.each i).flagged op c busy holds f).1)))

  -- a worker that has an answer may drop what it has in hand, and has the ledger after the answer
  pub drops_answered : HasAnswer (scene m i) op reply → MayDrop stage (m.worker i) (ledger_after op reply (m.worker i).ledger)
  drops_answered answers = elim answers [
    | inl at ↦ drops_at_leaf at
    | inr by ↦ (let worker = sound.workers.each i in
        drops_by_card stage (m.worker i) op by.0.card reply worker.facts busy by.0.holds by.0.flagged
        by.0.answers)
  ]

-- answer keeps the invariant
pub keeps_answer : KeepsInvariant act.Answer
keeps_answer m stage i said becomes there sound happens =
    let r = happens.row in
    subst (λ s. Follows m stage act.Answer i said (with_scene m i s)) (sym r.gives)
    (follows_worker m stage act.Answer i said _ there sound
    (λ c. ap (λ s. wins_by act.Answer (m.worker i).card s c) r.says)
    (takes_on_ended m stage i sound (ledger_after r.op r.reply (m.worker i).ledger)
    (drops_answered m stage i sound r.op r.reply r.busy r.answers)))
