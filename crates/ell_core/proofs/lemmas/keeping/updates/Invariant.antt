use Rattle.std.proofs.Common.{◌≡◌, ◌≢◌, ℕ, ◌<◌, ◌⊎◌, true, Some, inl, inr, sym, ap, ◌∙◌, refl}
use Rattle.ell_layout.specs.Words.{put, with_update}
use Rattle.ell_core.specs.state.Machine.{Worker, Machine, with_scene}
use Rattle.ell_core.specs.history.Stages.{Stage, Stages, insert_open, delete_open, effective_at}
use Rattle.ell_core.specs.history.Invariant.{WorkerIsSound, Invariant}
use Rattle.ell_core.proofs.lemmas.keeping.OneWorker.{HasInHand, StaysInHand, Becomes, workers_become}
use Rattle.ell_core.proofs.lemmas.keeping.updates.Cards.{UpdateExchange}
use Rattle.ell_core.proofs.lemmas.keeping.updates.Words.{NewWord, words_exchanged}
use Rattle.ell_core.proofs.lemmas.stages.Kinds.{kinds_later}
use Rattle.ell_core.proofs.lemmas.words.Later.{words_update}
use Rattle.ell_core.proofs.lemmas.keeping.updates.Workers.{worker_later, counts_later}
use Rattle.ell_core.proofs.lemmas.keeping.going_on.InHand.{OtherInHand}
use Rattle.ell_layout.proofs.lemmas.Writes.{put_cases}
use Rattle.ell_core.proofs.lemmas.stages.Advances.{stages_put}

-- the machine after worker i, which then is v, exchanged the update word of node x to a value
abbrev pub exchanged : Machine → ℕ → ℕ → ℕ → Worker → Machine
exchanged m i x value v = with_scene m i (record { words = with_update m.words x value; worker = v })

-- what is particular to the worker of an exchange that takes card c to a stage: it is sound, with its ledger and what it has in
-- hand flagged; if c's flag stands then, it stood before or the worker has it in hand; and no other worker has c in hand
-- without its flag
pub record NewWorker (m : Machine) (stage : Stages) (i x value c : ℕ) (new : Stage) (v : Worker) : Type 0 where
  pub sound : WorkerIsSound (with_update m.words x value) (put stage c new) v
  pub ledger : v.ledger ≡ (m.worker i).ledger
  pub shares : v.shared ≡ (m.worker i).shared
  pub hands : (d : ℕ) → v.card ≡ Some d → (m.worker i).card ≡ Some d
  pub effective : (k : ℕ) → effective_at (put stage c new) v k ≡ effective_at stage (m.worker i) k
  pub hand : (d : ℕ) → (m.worker i).card ≡ Some d → (m.worker i).flagged ≡ true → (v.card ≡ Some d) × (v.flagged ≡ true)
  pub insert_hand : insert_open new ≡ true → (insert_open (stage c) ≡ true) ⊎ ((v.card ≡ Some c) × (v.flagged ≡ true))
  pub delete_hand : delete_open new ≡ true → (delete_open (stage c) ≡ true) ⊎ ((v.card ≡ Some c) × (v.flagged ≡ true))
  pub others : (j : ℕ) → j ≢ i → OtherInHand (m.worker j) c

module _ (m : Machine) (stage : Stages) (i x value c : ℕ) (new : Stage) (v : Worker)
    (e : UpdateExchange m.words stage x value c new) (n : NewWorker m stage i x value c new v) where
  -- the card that a worker has in hand, flagged, is this one
  hand_of : (d : ℕ) → d ≡ c → (v.card ≡ Some c) × (v.flagged ≡ true) → HasInHand v d
  hand_of d same h = record { holds = h.0 ∙ ap Some (sym same); flagged = h.1 }

  -- what the worker had in hand, flagged, it has
  hand_stays : (d : ℕ) → HasInHand (m.worker i) d → HasInHand v d
  hand_stays d h = let now = n.hand d h.holds h.flagged in record { holds = now.0; flagged = now.1 }

  -- an insert's flag that stands stays in hand
  inserts : (d : ℕ) → insert_open (put stage c new d) ≡ true → StaysInHand (m.worker i) v (insert_open (stage d)) d
  inserts d = put_cases (λ s. insert_open s ≡ true → StaysInHand (m.worker i) v (insert_open (stage d)) d) stage c new d
      (λ same h. elim (n.insert_hand h) [
        | inl before ↦ inr (ap (λ z. insert_open (stage z)) same ∙ before, hand_stays d)
        | inr now ↦ inl (hand_of d same now)
      ])
      (λ other h. inr (h, hand_stays d))

  -- a delete's flag that stands stays in hand
  deletes : (d : ℕ) → delete_open (put stage c new d) ≡ true → StaysInHand (m.worker i) v (delete_open (stage d)) d
  deletes d = put_cases (λ s. delete_open s ≡ true → StaysInHand (m.worker i) v (delete_open (stage d)) d) stage c new d
      (λ same h. elim (n.delete_hand h) [
        | inl before ↦ inr (ap (λ z. delete_open (stage z)) same ∙ before, hand_stays d)
        | inr now ↦ inl (hand_of d same now)
      ])
      (λ other h. inr (h, hand_stays d))

  -- the worker becomes what it is after the exchange
  becomes : i < m.count → Invariant m stage → Becomes m stage i (with_update m.words x value) (put stage c new) v
  becomes there old = record {
    there = there;
    leads = λ k held. (λ l. l, λ l. l);
    own = n.sound;
    others = λ j other. worker_later m.words stage x value c new e old.words (m.worker j) (n.others j other) (old.workers.each j);
    shares = n.shares;
    hands = λ d holds. inl (n.hands d holds);
    owns = λ k. (let same = ap (λ ledger. ledger k) n.ledger in (λ o none. o (same ∙ none), λ o none. o (sym same ∙ none)));
    counts = λ k o. n.effective k;
    counts_others = λ j k other o. counts_later m.words stage x value c new e (m.worker j) k;
    inserts = inserts;
    deletes = deletes;
  }

  -- the invariant holds after the exchange
  pub keeps_exchange : i < m.count → NewWord m.words stage x value c new → Invariant m stage
      → Invariant (exchanged m i x value v) (put stage c new)
  keeps_exchange there now k = record {
    words = words_exchanged m.words stage x value c new e now k.words;
    workers = workers_become m stage i (with_update m.words x value) (put stage c new) v (becomes there k) k.workers;
    limit = k.limit;
    kinds = kinds_later m.words (with_update m.words x value) stage (put stage c new) (words_update m.words x value e.rises e.unmarked)
        (stages_put stage c new e.later) (inl refl) k.kinds;
  }
