use Rattle.std.proofs.Common.{◌≡◌, ◌≢◌, ℕ, ◌==◌, if◌then◌else◌, Bool, true, false, not, Option, Some, None, is_some, unwrap_or, inl, inr, refl, sym, ap, ◌∙◌, subst}
use Rattle.std.proofs.lemmas.Bool.{false≢true, eqb-true, eq-eqb}
use Rattle.ell_ops.specs.declared.op.Op.{Op}
use Rattle.ell_ops.specs.declared.op.Op.TheVariants.{Find, Insert, Delete, Swap}
use Rattle.ell_ops.specs.Contents.{Contents, with_pair, with_swap, swapped, without}
use Rattle.ell_ops.specs.Meaning.{key_of, reply_of, after, yes_if, found}
use Rattle.ell_core.specs.declared.event.Stepped.{Stepped}
use Rattle.ell_core.specs.declared.event.Stepped.TheVariants.{Answered}
use Rattle.ell_core.specs.declared.fact.Fact.TheVariants as fact
use Rattle.ell_layout.specs.Words.{Words, put, IsLeaf}
use Rattle.ell_core.specs.state.Machine.{Ledger, Worker, Machine, Scene, scene}
use Rattle.ell_core.specs.acts.Searching.{value_at, leaf_answer, card_answer, settled, ledger_after, HasAnswer, Answer}
use Rattle.ell_trie.specs.Ranges.{at_leaf}
use Rattle.ell_core.specs.history.Stages.{Stages}
use Rattle.ell_core.specs.history.Invariant.{StandIsSound, Flagged, Invariant}
use Rattle.ell_core.specs.statements.Effects.{value_in, contents_in}
use Rattle.ell_core.proofs.lemmas.outcomes.Decide.{same_value, some_not_none}
use Rattle.ell_core.proofs.lemmas.keeping.search.Answer.{gives_if, gives_one, gives_else}
use Rattle.ell_trie.proofs.lemmas.order.Bounds.{leaf_key}
use Rattle.ell_core.specs.declared.view.Entry.{Entry}
use Rattle.ell_core.specs.declared.view.Entry.TheVariants.{Present, Absent}
use Rattle.ell_ops.specs.declared.reply.Reply.{Reply}
use Rattle.ell_ops.specs.declared.reply.Reply.TheVariants.{Yes, Found}
use Rattle.ell_core.specs.soundness.Sound.{WorkerOwns}

-- an operation's reply is that on the contents of a ledger, and the later ledger has what the operation leaves
pub record AnswersTheMap (op : Op) (reply : Reply) (ledger later : Ledger) : Type 0 where
  pub reply_is : reply ≡ reply_of op (contents_in ledger)
  pub map_is : (k : ℕ) → contents_in later k ≡ after op (contents_in ledger) k

-- an entry that has a value is present with it
present_entry : (entry : Option Entry) (value : ℕ) → value_in entry ≡ Some value → entry ≡ Some (Present value)
present_entry (Some (Present v)) value h = let same : v ≡ value = cc in ap (λ n. Some (Present n)) same
present_entry (Some Absent) value h = absurd cc
present_entry None value h = absurd cc

-- a worker that stands at a leaf finds a key of its own there, with its value, exactly where the ledger has it present so
has_value : (w : Words) (stage : Stages) (v : Worker) (k x : ℕ) → StandIsSound w stage v k x → IsLeaf x → WorkerOwns v k
    → value_at w x k ≡ contents_in v.ledger k
has_value w stage v k x h outer owns = by (w.key x == k) refl
  where
    other : w.key x ≢ k → (o : Option ℕ) → contents_in v.ledger k ≡ o → None ≡ o
    other n None e = refl
    other n (Some value) e = absurd (n (leaf_key w.key w.child k x outer ((h.leads owns value).1 (present_entry (v.ledger k) value e))))

    by : (b : Bool) → (w.key x == k) ≡ b → (if b then Some (w.value x) else None) ≡ contents_in v.ledger k
    by true same = sym (ap value_in ((h.leads owns (w.value x)).0 (at_leaf outer (eqb-true (w.key x) k same) refl)))
    by false apart = other (λ e. false≢true (sym apart ∙ eq-eqb (w.key x) k e)) (contents_in v.ledger k) refl

-- an entry that is put in place of another, in the contents
put_value : (ledger : Ledger) (k : ℕ) (made : Entry) (q : ℕ)
    → contents_in (put ledger k (Some made)) q ≡ (if q == k then value_in (Some made) else contents_in ledger q)
put_value ledger k made q = by_test (q == k) where
  by_test : (test : Bool)
      → value_in (if test then Some made else ledger q) ≡ (if test then value_in (Some made) else value_in (ledger q))
  by_test true = refl
  by_test false = refl

-- with a key that is there, and without one that is not, contents are as they were
pub key_kept : (there : Contents) (k value had : ℕ) → there k ≡ Some had → (q : ℕ) → there q ≡ with_pair there k value q
key_kept there k value had h q = by (q == k) refl
  where
    by : (b : Bool) → (q == k) ≡ b → there q ≡ (if b then Some (unwrap_or (there q) value) else there q)
    by true same = let has = ap there (eqb-true q k same) ∙ h in has ∙ ap (λ o. Some (unwrap_or o value)) (sym has)
    by false other = refl

pub key_lacked : (there : Contents) (k : ℕ) → there k ≡ None → (q : ℕ) → there q ≡ without there k q
key_lacked there k h q = by (q == k) refl
  where
    by : (b : Bool) → (q == k) ≡ b → there q ≡ (if b then None else there q)
    by true same = ap there (eqb-true q k same) ∙ h
    by false other = refl

-- a key that was not there gets the value
key_added : (there : Contents) (k value : ℕ) → there k ≡ None → (q : ℕ) → (if q == k then Some value else there q) ≡ with_pair there k value q
key_added there k value h q = by (q == k) refl
  where
    by : (b : Bool) → (q == k) ≡ b → (if b then Some value else there q) ≡ (if b then Some (unwrap_or (there q) value) else there q)
    by true same = ap (λ o. Some (unwrap_or o value)) (sym (ap there (eqb-true q k same) ∙ h))
    by false other = refl

-- a swap leaves what has not its first value, and gives the second one to what has it
pub swap_lacked : (there : Contents) (k was value : ℕ) → there k ≡ None → (q : ℕ) → there q ≡ with_swap there k was value q
swap_lacked there k was value h q = by (q == k) refl
  where
    by : (b : Bool) → (q == k) ≡ b → there q ≡ (if b then swapped (there q) was value else there q)
    by true same = let lacks = ap there (eqb-true q k same) ∙ h in lacks ∙ ap (λ o. swapped o was value) (sym lacks)
    by false other = refl

pub swap_other : (there : Contents) (k was value had : ℕ) → there k ≡ Some had → (had == was) ≡ false → (q : ℕ) → there q ≡ with_swap there k was value q
swap_other there k was value had h differs q = by (q == k) refl
  where
    by : (b : Bool) → (q == k) ≡ b → there q ≡ (if b then swapped (there q) was value else there q)
    by true same = let has = ap there (eqb-true q k same) ∙ h in
        has ∙ (sym (ap (λ t. Some (if t then value else had)) differs) ∙ ap (λ o. swapped o was value) (sym has))
    by false other = refl

swap_taken : (there : Contents) (k was value : ℕ) → there k ≡ Some was → (q : ℕ) → (if q == k then Some value else there q) ≡ with_swap there k was value q
swap_taken there k was value h q = by (q == k) refl
  where
    by : (b : Bool) → (q == k) ≡ b → (if b then Some value else there q) ≡ (if b then swapped (there q) was value else there q)
    by true same = let has = ap there (eqb-true q k same) ∙ h in
        sym (ap (λ t. Some (if t then value else was)) (eq-eqb was was refl)) ∙ ap (λ o. swapped o was value) (sym has)
    by false other = refl

-- an answer at a leaf answers the map, where the leaf has the key with a value exactly as the map has it
pub leaf_answers : (op : Op) (there : Option ℕ) (reply : Reply) (ledger : Ledger) → there ≡ contents_in ledger (key_of op)
    → leaf_answer op there ≡ Some reply → AnswersTheMap op reply ledger (ledger_after op reply ledger)
leaf_answers (Find k) there reply ledger h e = record { reply_is = sym (same_value refl e) ∙ ap found h; map_is = λ q. refl }
leaf_answers (Insert k value) (Some had) reply ledger h e =
    subst (λ b. AnswersTheMap (Insert k value) b ledger (ledger_after (Insert k value) b ledger)) (same_value refl e)
    (record { reply_is = ap (λ o. yes_if (not (is_some o))) h; map_is = key_kept (contents_in ledger) k value had (sym h) })
leaf_answers (Insert k value) None reply ledger h e = absurd (some_not_none e refl)
leaf_answers (Delete k) (Some had) reply ledger h e = absurd (some_not_none e refl)
leaf_answers (Delete k) None reply ledger h e =
    subst (λ b. AnswersTheMap (Delete k) b ledger (ledger_after (Delete k) b ledger)) (same_value refl e)
    (record { reply_is = ap (λ o. yes_if (is_some o)) h; map_is = key_lacked (contents_in ledger) k (sym h) })
leaf_answers (Swap k was value) None reply ledger h e =
    subst (λ b. AnswersTheMap (Swap k was value) b ledger (ledger_after (Swap k was value) b ledger)) (same_value refl e)
    (record { reply_is = ap found h; map_is = swap_lacked (contents_in ledger) k was value (sym h) })
leaf_answers (Swap k was value) (Some had) reply ledger h e =
    let g = gives_else (had == was) (Found had) reply e in
    subst (λ b. AnswersTheMap (Swap k was value) b ledger (ledger_after (Swap k was value) b ledger)) (sym g.1)
    (subst (λ t. AnswersTheMap (Swap k was value) (Found had) ledger (if t then settled ledger k (Present value) (ledger k) else ledger)) (sym g.0)
    (record { reply_is = ap found h; map_is = swap_other (contents_in ledger) k was value had (sym h) g.0 }))

-- a ledger that has an entry of a key gets another
settled_put : (ledger : Ledger) (key : ℕ) (made old : Entry) → ledger key ≡ Some old → settled ledger key made (ledger key) ≡ put ledger key (Some made)
settled_put ledger key made old e = ap (settled ledger key made) e

-- an answer by a card answers the map: the key was absent for an insert, present for a delete
pub card_answers : (w : Words) (stage : Stages) (v : Worker) (op : Op) (c : ℕ) (reply : Reply) → Flagged w stage v op c → WorkerOwns v (key_of op)
    → card_answer op c v.knows ≡ Some reply → AnswersTheMap op reply v.ledger (ledger_after op reply v.ledger)
card_answers w stage v (Find k) c reply h owns e = absurd h
card_answers w stage v (Insert k value) c reply h owns e =
    subst (λ b. AnswersTheMap (Insert k value) b v.ledger (ledger_after (Insert k value) b v.ledger))
    (sym (gives_if (v.knows (fact.IOver c)) reply e).1)
    (subst (AnswersTheMap (Insert k value) Yes v.ledger) (sym (settled_put v.ledger k (Present value) Absent (h.3 owns)))
    (record {
      reply_is = ap (λ o. yes_if (not (is_some (value_in o)))) (sym (h.3 owns));
      map_is = λ q. put_value v.ledger k (Present value) q ∙ key_added (contents_in v.ledger) k value (ap value_in (h.3 owns)) q;
    }))
card_answers w stage v (Delete k) c reply h owns e =
    subst (λ b. AnswersTheMap (Delete k) b v.ledger (ledger_after (Delete k) b v.ledger))
    (sym (gives_if (v.knows (fact.DOver c)) reply e).1)
    (subst (AnswersTheMap (Delete k) Yes v.ledger) (sym (settled_put v.ledger k Absent (Present (h.2 owns).0) (h.2 owns).1))
    (record { reply_is = ap (λ o. yes_if (is_some (value_in o))) (sym (h.2 owns).1); map_is = put_value v.ledger k Absent }))
card_answers w stage v (Swap k was value) c reply h owns e =
    subst (λ b. AnswersTheMap (Swap k was value) b v.ledger (ledger_after (Swap k was value) b v.ledger))
    (sym (gives_one (v.knows (fact.IOver c)) (Found was) reply e).1)
    (subst (λ t. AnswersTheMap (Swap k was value) (Found was) v.ledger (if t then settled v.ledger k (Present value) (v.ledger k) else v.ledger))
    (sym (eq-eqb was was refl))
    (subst (AnswersTheMap (Swap k was value) (Found was) v.ledger) (sym (settled_put v.ledger k (Present value) (Present was) (h.3 owns)))
    (record {
      reply_is = ap (λ o. found (value_in o)) (sym (h.3 owns));
      map_is = λ q. put_value v.ledger k (Present value) q ∙ swap_taken (contents_in v.ledger) k was value (ap value_in (h.3 owns)) q;
    })))

-- an answer is the reply of the operation on the contents of the worker's ledger, and leaves what the operation leaves
pub answers_the_map : (m : Machine) (stage : Stages) (i : ℕ) (said : Stepped) (becomes : Scene) (op : Op) (reply : Reply)
    → Invariant m stage → Answer (scene m i) said becomes → (m.worker i).operation ≡ Some op → said ≡ Answered reply → WorkerOwns (m.worker i) (key_of op)
    → AnswersTheMap op reply (m.worker i).ledger becomes.worker.ledger
answers_the_map m stage i said becomes op reply sound r busy says owned =
    subst (λ o. AnswersTheMap o reply v.ledger becomes.worker.ledger) (same_value r.busy busy)
    (subst (λ b. AnswersTheMap r.op b v.ledger becomes.worker.ledger) (let same : r.reply ≡ reply = cc in same)
    (subst (λ (s : Scene). AnswersTheMap r.op r.reply v.ledger s.worker.ledger) (sym r.gives) (by_case r.answers)))
  where
    v : Worker
    v = m.worker i

    owns : WorkerOwns v (key_of r.op)
    owns = subst (λ o. WorkerOwns v (key_of o)) (sym (same_value r.busy busy)) owned

    by_case : HasAnswer (scene m i) r.op r.reply → AnswersTheMap r.op r.reply v.ledger (ledger_after r.op r.reply v.ledger)
    by_case answers = elim answers [
      | inl at ↦ leaf_answers r.op _ r.reply v.ledger
          (has_value m.words stage v (key_of r.op) at.leaf
          ((sound.workers.each i).stands r.op at.leaf r.busy at.stands) at.outer owns) at.answers
      | inr by ↦ card_answers m.words stage v r.op by.0.card r.reply
          ((sound.workers.each i).flagged r.op by.0.card r.busy by.0.holds by.0.flagged).0 owns by.0.answers
    ]
