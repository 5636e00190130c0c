use Rattle.std.proofs.Common.{◌≡◌, ◌≢◌, ℕ, ◌<◌, ◌↔◌, inl, inr, Bool, true, false, Some, None, refl, sym, ap, ◌∙◌, subst, arith, ◌%◌}
use Rattle.std.proofs.lemmas.Bool.{false≢true}
use Rattle.ell_ops.specs.declared.op.Op.{Op}
use Rattle.ell_ops.specs.Meaning.{key_of}
use Rattle.ell_core.specs.declared.event.Act.TheVariants as act
use Rattle.ell_core.specs.declared.fact.Fact.TheVariants as fact
use Rattle.ell_core.specs.state.Machine.{Ledger, Worker, Machine, with_scene}
use Rattle.ell_core.specs.acts.Searching.{begun, ended, MayStop}
use Rattle.ell_core.specs.acts.Events.{LacksKey}
use Rattle.ell_core.specs.soundness.Sound.{WorkerOwns, MayChange}
use Rattle.ell_core.specs.history.Stages.{Stages, insert_open, delete_open, is_backed, effective_at, is_node_born}
use Rattle.ell_core.specs.history.Invariant.{top, StandIsSound, Invariant}
use Rattle.ell_core.specs.history.Later.{Follows}
use Rattle.ell_core.specs.acts.Wins.{wins_by}
use Rattle.ell_core.proofs.lemmas.outcomes.Decide.{same_value, some_not_none}
use Rattle.ell_trie.specs.Courses.{ordinary}
use Rattle.ell_trie.proofs.lemmas.order.Courses.{OnCourse-start}
use Rattle.ell_core.proofs.lemmas.keeping.OneWorker.{HasInHand, TakesOn, follows_worker}
use Rattle.ell_core.proofs.lemmas.stages.Counts.{counts_unmade}
use Rattle.ell_core.proofs.lemmas.stages.Order.{backed_made, backed_insert, backed_delete}
use Rattle.ell_core.proofs.lemmas.keeping.KeepsInvariant.{KeepsInvariant}

-- a worker may drop what it has in hand and have this ledger: it owns the same keys, which count as in its effective ledger,
-- and no flag of its card stands
pub record MayDrop (stage : Stages) (v : Worker) (ledger : Ledger) : Type 0 where
  pub owns : (k : ℕ) → (ledger k ≢ None) ↔ WorkerOwns v k
  pub counts : (k : ℕ) → WorkerOwns v k → effective_at stage v k ≡ ledger k
  pub inserts : (c : ℕ) → HasInHand v c → insert_open (stage c) ≡ false
  pub deletes : (c : ℕ) → HasInHand v c → delete_open (stage c) ≡ false

-- a worker whose flagged card, if any, is backed may drop it, and keeps its ledger
pub drops_backed : (stage : Stages) (v : Worker)
    → ((c : ℕ) → v.card ≡ Some c → v.flagged ≡ true → is_backed (stage c) ≡ true) → MayDrop stage v v.ledger
drops_backed stage v h = record {
  owns = λ k. (λ o. o, λ o. o);
  counts = λ k owns. ap (λ f. f k)
      (counts_unmade stage v (λ op c b e f. backed_made op (stage c) (h c e f)));
  inserts = λ c hand. backed_insert (stage c) (h c hand.holds hand.flagged);
  deletes = λ c hand. backed_delete (stage c) (h c hand.holds hand.flagged);
}

module _ (m : Machine) (stage : Stages) (i : ℕ) (sound : Invariant m stage) where
  -- the worker before
  abbrev v : Worker
  v = m.worker i

  -- a worker without an operation may drop what it has in hand
  drops_idle : v.operation ≡ None → MayDrop stage v v.ledger
  drops_idle free = drops_backed stage v
      (λ c e f. absurd (some_not_none e (ap (λ (u : Worker). u.card) ((sound.workers.each i).free free))))

  -- a worker that may stop may drop what it has in hand
  drops_stopped : MayStop v → MayDrop stage v v.ledger
  drops_stopped may = drops_backed stage v (λ c e f. (sound.workers.each i).facts (fact.Backed c) (may.backed c e f))

  -- a worker may end with this ledger
  pub takes_on_ended : (ledger : Ledger) → MayDrop stage v ledger → TakesOn m stage i (record (ended v) { ledger = ledger })
  takes_on_ended ledger may = record {
    own = record {
      facts = (sound.workers.each i).facts;
      real = λ k may_change. elim may_change [
        | inl o ↦ (sound.workers.each i).real k (inl ((may.owns k).0 o))
        | inr shared ↦ (sound.workers.each i).real k (inr shared)
      ];
      free = λ e. refl;
      owned = λ op e. absurd (some_not_none e refl);
      stands = λ op x e. absurd (some_not_none e refl);
      unflagged = λ op c e. absurd (some_not_none e refl);
      flagged = λ op c e. absurd (some_not_none e refl);
    };
    owns = may.owns;
    shares = refl;
    hands = λ c holds. absurd (some_not_none holds refl);
    counts = λ k o. sym (may.counts k o);
    inserts = λ c stood hand. absurd (false≢true (sym (may.inserts c hand) ∙ stood));
    deletes = λ c stood hand. absurd (false≢true (sym (may.deletes c hand) ∙ stood));
  }

  -- a worker that stands at the root with an operation on a key of its own
  stands_at_root : (op : Op) → MayChange v (key_of op) → MayDrop stage v v.ledger
      → StandIsSound m.words stage (begun (Some op) v) (key_of op) 0
  stands_at_root op owns may = record {
    born = ap (λ s. is_node_born s (0 % 4)) sound.words.opening;
    read = λ word e. absurd (some_not_none e refl);
    leads = λ owned value. (let present = sound.workers.present i (key_of op) value owned in
        (λ l. sym (may.counts (key_of op) owned) ∙ present.0 l, λ e. present.1 (may.counts (key_of op) owned ∙ e)));
    course = ordinary (OnCourse-start m.words.key m.words.child top sound.words.tree.ordered (key_of op) below_top);
    parent = λ seen e. absurd (some_not_none e refl);
    grandparent = λ seen above e. absurd (some_not_none e refl);
    has_parent = λ n. absurd (n refl);
    has_grandparent = λ seen e. absurd (some_not_none e refl);
    deep = λ outer. absurd (outer refl);
  } where
    below_top : key_of op < top
    below_top = let real = (sound.workers.each i).real (key_of op) owns in omega arith

  -- a worker may begin at the root
  pub takes_on_begun : (op : Op) → MayChange v (key_of op) → MayDrop stage v v.ledger → TakesOn m stage i (begun (Some op) v)
  takes_on_begun op owns may = record {
    own = record {
      facts = (sound.workers.each i).facts;
      real = (sound.workers.each i).real;
      free = λ e. absurd (some_not_none refl e);
      owned = λ other e. subst (λ o. MayChange v (key_of o)) (same_value refl e) owns;
      stands = λ other x e at. subst (λ o. StandIsSound m.words stage (begun (Some op) v) (key_of o) x) (same_value refl e)
          (subst (StandIsSound m.words stage (begun (Some op) v) (key_of op)) (same_value refl at)
          (stands_at_root op owns may));
      unflagged = λ other c e holds. absurd (some_not_none holds refl);
      flagged = λ other c e holds. absurd (some_not_none holds refl);
    };
    owns = may.owns;
    shares = refl;
    hands = λ c holds. absurd (some_not_none holds refl);
    counts = λ k o. sym (may.counts k o);
    inserts = λ c stood hand. absurd (false≢true (sym (may.inserts c hand) ∙ stood));
    deletes = λ c stood hand. absurd (false≢true (sym (may.deletes c hand) ∙ stood));
  }

-- a key that a worker does not lack it may change
may_begin : (op : Op) (v : Worker) → ¬ LacksKey (act.Begin op) v → MayChange v (key_of op)
may_begin op v has = by (v.shared (key_of op)) refl
  where
    by : (b : Bool) → v.shared (key_of op) ≡ b → MayChange v (key_of op)
    by true e = inr e
    by false e = inl (λ none. has (none, e))

-- begin keeps the invariant
pub keeps_begin : (op : Op) → KeepsInvariant (act.Begin op)
keeps_begin op m stage i said becomes there sound happens =
    let r = happens.row in
    subst (λ s. Follows m stage (act.Begin op) i said (with_scene m i s)) (sym r.gives)
    (follows_worker m stage (act.Begin op) i said (begun (Some op) (m.worker i)) there sound
    (λ c. ap (λ s. wins_by (act.Begin op) (m.worker i).card s c) r.says)
    (takes_on_begun m stage i sound op (may_begin op (m.worker i) happens.owned) (drops_idle m stage i sound r.free)))

-- again keeps the invariant
pub keeps_again : KeepsInvariant act.Again
keeps_again m stage i said becomes there sound happens =
    let r = happens.row in
    let owns = (sound.workers.each i).owned r.may.op r.may.busy in
    subst (λ s. Follows m stage act.Again i said (with_scene m i s)) (sym r.gives)
    (follows_worker m stage act.Again i said (begun (m.worker i).operation (m.worker i)) there sound
    (λ c. ap (λ s. wins_by act.Again (m.worker i).card s c) r.says)
    (subst (λ o. TakesOn m stage i (begun o (m.worker i))) (sym r.may.busy)
    (takes_on_begun m stage i sound r.may.op owns (drops_stopped m stage i sound r.may))))

-- leave keeps the invariant
pub keeps_leave : KeepsInvariant act.Leave
keeps_leave m stage i said becomes there sound happens =
    let r = happens.row in
    subst (λ s. Follows m stage act.Leave i said (with_scene m i s)) (sym r.gives)
    (follows_worker m stage act.Leave i said (ended (m.worker i)) there sound
    (λ c. ap (λ s. wins_by act.Leave (m.worker i).card s c) r.says)
    (takes_on_ended m stage i sound (m.worker i).ledger (drops_stopped m stage i sound r.may)))
