use Rattle.std.proofs.Common.{◌≡◌, ℕ, ◌≤◌, ◌⊎◌, inl, inr, ◌↔◌, true, false, Some, None, sym, ap, ◌∙◌, subst}
use Rattle.std.proofs.lemmas.Option.{none-some}
use Rattle.ell_ops.specs.Meaning.{greatest_key}
use Rattle.ell_core.specs.declared.fact.Fact.{Fact}
use Rattle.ell_layout.specs.Words.{Words}
use Rattle.ell_core.specs.state.Facts.{card_of_fact}
use Rattle.ell_core.specs.state.Machine.{Worker, Machine, nobody}
use Rattle.ell_core.specs.state.Handovers.{WorkerIsIdle}
use Rattle.ell_core.specs.soundness.Sound.{WorkerOwns, MayChange, IsNotShared, IsOwned, IsInHand}
use Rattle.ell_core.specs.history.Stages.{Stages, allows, effective_at}
use Rattle.ell_core.specs.history.Invariant.{LeadsTo, LeadsToValue, WorkerIsSound, Invariant}
use Rattle.ell_core.specs.declared.view.Entry.TheVariants.{Present}

-- a worker knows only what the stages of the cards allow
abbrev pub KnowsOnlyAllowed : Stages → Worker → Type 0
KnowsOnlyAllowed stage v = (fact : Fact) → v.knows fact ≡ true → allows fact (stage (card_of_fact fact)) ≡ true

-- a worker may change only real keys
abbrev pub OwnsReal : Worker → Type 0
OwnsReal v = (k : ℕ) → MayChange v k → k ≤ greatest_key

-- an idle worker has no operation in hand
pub idle_free : (v : Worker) → WorkerIsIdle v → v.operation ≡ None
idle_free v h = ap (λ (z : Worker). z.operation) h

-- nor a card
pub idle_empty : (v : Worker) → WorkerIsIdle v → v.card ≡ None
idle_empty v h = ap (λ (z : Worker). z.card) h

-- its effective ledger is its ledger
pub idle_staged : (stage : Stages) (v : Worker) (k : ℕ) → WorkerIsIdle v → effective_at stage v k ≡ v.ledger k
idle_staged stage v k h = ap (λ (z : Worker). effective_at stage z k) h

-- an idle worker is sound that owns real keys and knows what is allowed
pub idle_sound : (w : Words) (stage : Stages) (v : Worker) → WorkerIsIdle v → OwnsReal v → KnowsOnlyAllowed stage v → WorkerIsSound w stage v
idle_sound w stage v free real knows =
    let none = idle_free v free in
    record {
      facts = knows;
      real = real;
      free = λ h. free;
      owned = λ op h. absurd (none-some op (sym none ∙ h));
      stands = λ op x h g. absurd (none-some op (sym none ∙ h));
      unflagged = λ op c h g f. absurd (none-some op (sym none ∙ h));
      flagged = λ op c h g f. absurd (none-some op (sym none ∙ h));
    }

-- a worker's key comes from an old seat, whose effective ledger has the same there
pub record Comes (m : Machine) (stage : Stages) (lands : ℕ → ℕ → ℕ) (v : Worker) (n k : ℕ) : Type 0 where
  pub old : ℕ
  pub owned : WorkerOwns (m.worker old) k
  pub same : effective_at stage v k ≡ effective_at stage (m.worker old) k
  pub here : lands old k ≡ n

-- new workers in the seats, each key of an old one at the seat where it lands
pub record Reseats (m : Machine) (stage : Stages) (worker : ℕ → Worker) (count : ℕ) : Type 0 where
  pub lands : ℕ → ℕ → ℕ
  pub comes : (n k : ℕ) → WorkerOwns (worker n) k → Comes m stage lands (worker n) n k
  pub goes : (old k : ℕ) → WorkerOwns (m.worker old) k → WorkerOwns (worker (lands old k)) k
  pub kept : (old : ℕ) → (worker old ≡ m.worker old) ⊎ WorkerIsIdle (m.worker old)
  pub each : (n : ℕ) → (worker n ≡ m.worker n) ⊎ (WorkerIsIdle (worker n) × KnowsOnlyAllowed stage (worker n))
  pub strangers : (n : ℕ) → count ≤ n → worker n ≡ nobody
  pub shares : (n k : ℕ) → (worker n).shared k ≡ true → (old : ℕ) × ((m.worker old).shared k ≡ true)
  pub shared : (k old : ℕ) → ((n : ℕ) → (worker n).shared k ≡ false) → (m.worker old).shared k ≡ false

module _ (m : Machine) (stage : Stages) (worker : ℕ → Worker) (count : ℕ) (h : Reseats m stage worker count) (before : Invariant m stage) where
  -- the state with the new workers
  abbrev reseated : Machine
  reseated = record m { worker = worker; count = count }

  -- each new worker may change only real keys
  reseated_real : (n : ℕ) → OwnsReal (worker n)
  reseated_real n k (inl owns) = let c = h.comes n k owns in (before.workers.each c.old).real k (inl c.owned)
  reseated_real n k (inr shared) = let c = h.shares n k shared in (before.workers.each c.0).real k (inr c.1)

  -- each new worker is sound
  reseated_each : (n : ℕ) → WorkerIsSound m.words stage (worker n)
  reseated_each n = elim (h.each n) [
    | inl same ↦ subst (WorkerIsSound m.words stage) (sym same) (before.workers.each n)
    | inr new ↦ idle_sound m.words stage (worker n) new.0 (reseated_real n) new.1
  ]

  -- a key has one new owner
  reseated_owner : (a b k : ℕ) → WorkerOwns (worker a) k → WorkerOwns (worker b) k → a ≡ b
  reseated_owner a b k left right =
      let x = h.comes a k left in
      let y = h.comes b k right in
      let one = before.workers.one_owner x.old y.old k x.owned y.owned in
      sym x.here ∙ (ap (λ n. h.lands n k) one ∙ y.here)

  -- the keys of the tree among a new worker's are those present
  reseated_present : (n k value : ℕ) → WorkerOwns (worker n) k → LeadsToValue m.words k value 0 ↔ (effective_at stage (worker n) k ≡ Some (Present value))
  reseated_present n k value owns =
      let c = h.comes n k owns in
      let old = before.workers.present c.old k value c.owned in
      (λ found. c.same ∙ old.0 found, λ is. old.1 (sym c.same ∙ is))

  -- a shared key has no new owner
  reseated_apart : (a b k : ℕ) → (worker a).shared k ≡ true → ¬ WorkerOwns (worker b) k
  reseated_apart a b k shared owns =
      let x = h.shares a k shared in
      let y = h.comes b k owns in
      before.workers.apart x.0 y.old k x.1 y.owned

  -- another key of the tree has a new owner
  reseated_owned : (k : ℕ) → k ≤ greatest_key → LeadsTo m.words k 0 → IsNotShared reseated k → IsOwned reseated k
  reseated_owned k real found none =
      let old = before.workers.owned k real found (λ n. h.shared k n none) in
      record { worker = h.lands old.worker k; owns = h.goes old.worker k old.owns }

  -- a card in hand, flagged, stays so
  reseated_hand : (c : ℕ) → IsInHand m c → IsInHand reseated c
  reseated_hand c hand = elim (h.kept hand.worker) [
    | inl same ↦ record {
      worker = hand.worker;
      holds = ap (λ (z : Worker). z.card) same ∙ hand.holds;
      flagged = ap (λ (z : Worker). z.flagged) same ∙ hand.flagged;
    }
    | inr free ↦ absurd (none-some c (sym (idle_empty (m.worker hand.worker) free) ∙ hand.holds))
  ]

  -- who has a card in hand had it
  reseated_had : (n c : ℕ) → (worker n).card ≡ Some c → (m.worker n).card ≡ Some c
  reseated_had n c holds = elim (h.each n) [
    | inl same ↦ sym (ap (λ (z : Worker). z.card) same) ∙ holds
    | inr new ↦ absurd (none-some c (sym (idle_empty (worker n) new.0) ∙ holds))
  ]

  -- the invariant holds with the new workers
  pub reseated_keeps : Invariant reseated stage
  reseated_keeps = record {
    words = before.words;
    workers = record {
      each = reseated_each;
      one_owner = reseated_owner;
      present = reseated_present;
      apart = reseated_apart;
      owned = reseated_owned;
      one_hand = λ a b c left right. before.workers.one_hand a b c (reseated_had a c left) (reseated_had b c right);
      insert_in_hand = λ c stands. reseated_hand c (before.workers.insert_in_hand c stands);
      delete_in_hand = λ c stands. reseated_hand c (before.workers.delete_in_hand c stands);
      strangers = h.strangers;
    };
    limit = before.limit;
    kinds = before.kinds;
  }
