use Rattle.std.proofs.Common.{◌≡◌, ◌≢◌, ℕ, ◌<◌, ◌⊎◌, ◌↔◌, Bool, true, [], ◌++◌, Some, inl, inr, refl, sym, ap, ◌∙◌, subst, arith}
use Rattle.ell_core.specs.declared.event.Act.{Act}
use Rattle.ell_core.specs.declared.event.Stepped.{Stepped}
use Rattle.ell_layout.specs.Words.{Words, put}
use Rattle.ell_core.specs.state.Machine.{Worker, Machine, nobody, with_scene}
use Rattle.ell_core.specs.soundness.Sound.{WorkerOwns, IsOwned, IsInHand}
use Rattle.ell_core.specs.history.Stages.{Stages, insert_open, delete_open, effective_at, effective_at_of}
use Rattle.ell_core.specs.history.Invariant.{LeadsToValue, WorkerIsSound, WorkersAreSound, Invariant}
use Rattle.ell_core.proofs.lemmas.tree.Reached.{leads_by_value}
use Rattle.ell_core.specs.history.Later.{Follows, wins_of}
use Rattle.ell_core.specs.acts.Wins.{wins_by}
use Rattle.ell_core.proofs.lemmas.words.Later.{words_same}
use Rattle.ell_layout.proofs.lemmas.Writes.{put_cases}
use Rattle.ell_core.proofs.lemmas.stages.Advances.{stages_same, wins_same}

-- a worker has a card in hand, flagged
pub record HasInHand (v : Worker) (c : ℕ) : Type 0 where
  pub holds : v.card ≡ Some c
  pub flagged : v.flagged ≡ true

-- a card whose flag stands: the new worker has it in hand, or it stood before, and the new worker has it if the old one had
abbrev pub StaysInHand : (old new : Worker) → Bool → ℕ → Type 0
StaysInHand old new stood c = HasInHand new c ⊎ ((stood ≡ true) × (HasInHand old c → HasInHand new c))

-- worker i becomes v, with these words and stages: the same keys lead to a leaf of theirs and of the same value, all workers are sound, worker i
-- owns what it owned, the effective ledgers count as before, and each card whose flag stands stays in hand
pub record Becomes (m : Machine) (stage : Stages) (i : ℕ) (words : Words) (new : Stages) (v : Worker) : Type 0 where
  pub there : i < m.count
  pub leads : (k value : ℕ) → LeadsToValue words k value 0 ↔ LeadsToValue m.words k value 0
  pub own : WorkerIsSound words new v
  pub others : (j : ℕ) → j ≢ i → WorkerIsSound words new (m.worker j)
  pub owns : (k : ℕ) → WorkerOwns v k ↔ WorkerOwns (m.worker i) k
  pub shares : v.shared ≡ (m.worker i).shared
  pub hands : (c : ℕ) → v.card ≡ Some c → ((m.worker i).card ≡ Some c) ⊎ ((j : ℕ) → (m.worker j).card ≢ Some c)
  pub counts : (k : ℕ) → WorkerOwns (m.worker i) k → effective_at new v k ≡ effective_at stage (m.worker i) k
  pub counts_others : (j k : ℕ) → j ≢ i → WorkerOwns (m.worker j) k → effective_at new (m.worker j) k ≡ effective_at stage (m.worker j) k
  pub inserts : (c : ℕ) → insert_open (new c) ≡ true → StaysInHand (m.worker i) v (insert_open (stage c)) c
  pub deletes : (c : ℕ) → delete_open (new c) ≡ true → StaysInHand (m.worker i) v (delete_open (stage c)) c

-- a card that some worker has in hand is in hand after the change
in_hand_kept : (m : Machine) (words : Words) (i : ℕ) (v : Worker) (c : ℕ) → (HasInHand (m.worker i) c → HasInHand v c)
    → IsInHand m c → IsInHand (record m { words = words; worker = put m.worker i v }) c
in_hand_kept m words i v c keeps h = record { worker = h.worker; holds = at.holds; flagged = at.flagged } where
  at : HasInHand (put m.worker i v h.worker) c
  at = put_cases (λ u. HasInHand u c) m.worker i v h.worker
      (λ e. keeps (subst (λ j. HasInHand (m.worker j) c) e (record { holds = h.holds; flagged = h.flagged })))
      (λ n. record { holds = h.holds; flagged = h.flagged })

-- a card that the new worker has in hand is in hand
in_hand_here : (m : Machine) (words : Words) (i : ℕ) (v : Worker) (c : ℕ) → HasInHand v c
    → IsInHand (record m { words = words; worker = put m.worker i v }) c
in_hand_here m words i v c h = record { worker = i; holds = at.holds; flagged = at.flagged } where
  at : HasInHand (put m.worker i v i) c
  at = put_cases (λ u. HasInHand u c) m.worker i v i (λ e. h) (λ n. absurd (n refl))

module _ (m : Machine) (stage : Stages) (i : ℕ) (words : Words) (new : Stages) (v : Worker)
    (h : Becomes m stage i words new v) (old : WorkersAreSound m stage) where
  -- the workers after the change
  abbrev worker : ℕ → Worker
  worker = put m.worker i v

  -- who owns a key owned it before
  owned_before : (j k : ℕ) → WorkerOwns (worker j) k → WorkerOwns (m.worker j) k
  owned_before j k = put_cases (λ u. WorkerOwns u k → WorkerOwns (m.worker j) k) m.worker i v j
      (λ e o. subst (λ n. WorkerOwns (m.worker n) k) (sym e) ((h.owns k).0 o)) (λ n o. o)

  -- a key that had an owner has it
  owned_after : (k : ℕ) → IsOwned m k → IsOwned (record m { words = words; worker = worker }) k
  owned_after k o = record {
    worker = o.worker;
    owns = put_cases (λ u. WorkerOwns u k) m.worker i v o.worker
        (λ e. (h.owns k).1 (subst (λ n. WorkerOwns (m.worker n) k) e o.owns)) (λ n. o.owns);
  }

  -- the effective ledgers count as before
  counts_after : (j k : ℕ) → WorkerOwns (m.worker j) k → effective_at new (worker j) k ≡ effective_at stage (m.worker j) k
  counts_after j k o = put_cases (λ u. effective_at new u k ≡ effective_at stage (m.worker j) k) m.worker i v j
      (λ e. subst (λ n. effective_at new v k ≡ effective_at stage (m.worker n) k) (sym e)
      (h.counts k (subst (λ n. WorkerOwns (m.worker n) k) e o)))
      (λ n. h.counts_others j k n o)

  -- the same keys are shared
  shared_before : (j k : ℕ) → (worker j).shared k ≡ (m.worker j).shared k
  shared_before j k = put_cases (λ u. u.shared k ≡ (m.worker j).shared k) m.worker i v j
      (λ e. ap (λ f. f k) h.shares ∙ ap (λ n. (m.worker n).shared k) (sym e)) (λ n. refl)

  -- a card is in one hand after the change
  one_hand_after : (a b c : ℕ) → (worker a).card ≡ Some c → (worker b).card ≡ Some c → a ≡ b
  one_hand_after a b c = put_cases (λ u. u.card ≡ Some c → (worker b).card ≡ Some c → a ≡ b) m.worker i v a
      (λ e. put_cases (λ u. v.card ≡ Some c → u.card ≡ Some c → a ≡ b) m.worker i v b
      (λ f holds same. e ∙ sym f)
      (λ f holds other. elim (h.hands c holds) [
        | inl had ↦ e ∙ old.one_hand i b c had other
        | inr none ↦ absurd (none b other)
      ]))
      (λ e. put_cases (λ u. (m.worker a).card ≡ Some c → u.card ≡ Some c → a ≡ b) m.worker i v b
      (λ f other holds. elim (h.hands c holds) [
        | inl had ↦ old.one_hand a i c other had ∙ sym f
        | inr none ↦ absurd (none a other)
      ])
      (λ f left right. old.one_hand a b c left right))

  -- the workers are sound after the change
  pub workers_become : WorkersAreSound (record m { words = words; worker = worker }) new
  workers_become = record {
    each = λ j. put_cases (WorkerIsSound words new) m.worker i v j (λ e. h.own) (λ n. h.others j n);
    one_owner = λ a b k g f. old.one_owner a b k (owned_before a k g) (owned_before b k f);
    present = λ j k value o. (let before = owned_before j k o in
        let was = old.present j k value before in
        let same = counts_after j k before in
        (λ l. same ∙ was.0 ((h.leads k value).0 l), λ e. (h.leads k value).1 (was.1 (sym same ∙ e))));
    apart = λ a b k s o. old.apart a b k (sym (shared_before a k) ∙ s) (owned_before b k o);
    owned = λ k real l none. owned_after k (old.owned k real ((leads_by_value m.words words k 0 (h.leads k)).0 l) (λ j. sym (shared_before j k) ∙ none j));
    one_hand = one_hand_after;
    insert_in_hand = λ c g. elim (h.inserts c g) [
      | inl here ↦ in_hand_here m words i v c here
      | inr stood ↦ in_hand_kept m words i v c stood.1 (old.insert_in_hand c stood.0)
    ];
    delete_in_hand = λ c g. elim (h.deletes c g) [
      | inl here ↦ in_hand_here m words i v c here
      | inr stood ↦ in_hand_kept m words i v c stood.1 (old.delete_in_hand c stood.0)
    ];
    strangers = λ j far. put_cases (λ u. u ≡ nobody) m.worker i v j
        (λ e. absurd (let t = h.there in omega arith)) (λ n. old.strangers j far);
  }

-- worker i takes on v, while words and stages stay: v is sound, owns what worker i owned, counts the same keys, and has what
-- worker i had in hand with a flag that stands
pub record TakesOn (m : Machine) (stage : Stages) (i : ℕ) (v : Worker) : Type 0 where
  pub own : WorkerIsSound m.words stage v
  pub owns : (k : ℕ) → WorkerOwns v k ↔ WorkerOwns (m.worker i) k
  pub shares : v.shared ≡ (m.worker i).shared
  pub hands : (c : ℕ) → v.card ≡ Some c → (m.worker i).card ≡ Some c
  pub counts : (k : ℕ) → WorkerOwns (m.worker i) k → effective_at stage v k ≡ effective_at stage (m.worker i) k
  pub inserts : (c : ℕ) → insert_open (stage c) ≡ true → HasInHand (m.worker i) c → HasInHand v c
  pub deletes : (c : ℕ) → delete_open (stage c) ≡ true → HasInHand (m.worker i) c → HasInHand v c

-- what worker i takes on is sound, and has its ledger and what it had in hand
pub takes_on_same : (m : Machine) (stage : Stages) (i : ℕ) (v : Worker) → WorkerIsSound m.words stage v
    → v.ledger ≡ (m.worker i).ledger → v.shared ≡ (m.worker i).shared → v.operation ≡ (m.worker i).operation → v.card ≡ (m.worker i).card
    → v.flagged ≡ (m.worker i).flagged → TakesOn m stage i v
takes_on_same m stage i v own ledger shared operation card flagged = record {
  own = own;
  owns = λ k. (let same = ap (λ f. f k) ledger in (λ o none. o (same ∙ none), λ o none. o (sym same ∙ none)));
  shares = shared;
  hands = λ c holds. sym card ∙ holds;
  counts = λ k o. λ t. effective_at_of stage (ledger t) (operation t) (card t) (flagged t) k;
  inserts = λ c g h. record { holds = card ∙ h.holds; flagged = flagged ∙ h.flagged };
  deletes = λ c g h. record { holds = card ∙ h.holds; flagged = flagged ∙ h.flagged };
}

-- the machine where worker i has become v
abbrev pub with_worker : Machine → ℕ → Worker → Machine
with_worker m i v = record m { worker = put m.worker i v }

-- where one worker alone changes, the invariant holds after
pub keeps_worker : (m : Machine) (stage : Stages) (i : ℕ) (v : Worker) → i < m.count → Invariant m stage
    → TakesOn m stage i v → Invariant (with_worker m i v) stage
keeps_worker m stage i v there sound h = record {
  words = sound.words;
  limit = sound.limit;
  kinds = sound.kinds;
  workers = workers_become m stage i m.words stage v (record {
    there = there;
    leads = λ k value. (λ l. l, λ l. l);
    own = h.own;
    others = λ j n. sound.workers.each j;
    owns = h.owns;
    shares = h.shares;
    hands = λ c holds. inl (h.hands c holds);
    counts = h.counts;
    counts_others = λ j k n o. refl;
    inserts = λ c g. inr (g, h.inserts c g);
    deletes = λ c g. inr (g, h.deletes c g);
  }) sound.workers;
}

-- an act that changes one worker alone and wins nothing leads to a state of the invariant
pub follows_worker : (m : Machine) (stage : Stages) (a : Act) (i : ℕ) (said : Stepped) (v : Worker) → i < m.count
    → Invariant m stage → ((c : ℕ) → wins_by a (m.worker i).card said c ≡ []) → TakesOn m stage i v
    → Follows m stage a i said (with_scene m i (record { words = m.words; worker = v }))
follows_worker m stage a i said v there sound none h = record {
  stages = stage;
  invariant = keeps_worker m stage i v there sound h;
  words = words_same m.words;
  later = stages_same stage;
  unborn = λ c below out. record { words = λ field. refl; expects = refl; tags = λ right. refl };
  wins = λ c. wins_same (stage c) ∙ ap (λ more. wins_of (stage c) ++ more) (sym (none c));
}
