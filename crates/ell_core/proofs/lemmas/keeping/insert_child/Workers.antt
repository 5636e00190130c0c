use Rattle.std.proofs.Common.{◌≡◌, ℕ, ◌⊎◌, true, Some, inl, subst, sym, ap, ◌∙◌}
use Rattle.std.proofs.lemmas.Bool.{false≢true}
use Rattle.ell_ops.specs.declared.op.Op.{Op}
use Rattle.ell_ops.specs.declared.op.Op.TheVariants.{Find, Insert, Delete, Swap}
use Rattle.ell_ops.specs.Meaning.{key_of}
use Rattle.ell_layout.specs.Words.{Words}
use Rattle.ell_core.specs.state.Machine.{Worker, Machine}
use Rattle.ell_core.specs.history.Stages.{Stages, Stage, IFlagged, IChanged, RChanged, insert_won, insert_open, delete_open, delete_won, made_by_stage}
use Rattle.ell_core.specs.history.Invariant.{LeadsToValue, insert_key, insert_value, Flagged, WorkersAreSound, Invariant}
use Rattle.ell_core.proofs.lemmas.keeping.going_on.OneKey.{settled_workers}
use Rattle.ell_core.proofs.lemmas.keeping.insert_child.Card.{Brings, just_changed, ichild_words, ichild_stages}
use Rattle.ell_core.proofs.lemmas.tree.Reached.{one_value}
use Rattle.ell_core.proofs.lemmas.keeping.insert_child.Cards.{ichild_goes_on}
use Rattle.ell_core.specs.declared.view.Entry.TheVariants.{Present}

-- the machine after the child exchange of an insert, before its worker has learned that it was made
abbrev pub ichild_machine : Machine → ℕ → ℕ → Machine
ichild_machine m c q = record m { words = ichild_words m.words c q }

-- a waiting card in hand is an insert's of the card's key and value
waiting_own : (w : Words) (stage : Stages) (c : ℕ) → stage c ≡ IFlagged → (now : Stage) → (now ≡ IChanged) ⊎ (now ≡ RChanged) → (v : Worker) (op : Op)
    → Flagged w stage v op c → (key_of op ≡ insert_key w c) × (made_by_stage op now ≡ Some (Present (insert_value w c)))
waiting_own w stage c flagged now fresh v (Find k) h = absurd h
waiting_own w stage c flagged now fresh v (Insert k value) h = (
  sym h.1,
  just_changed (λ s. made_by_stage (Insert k value) s ≡ Some (Present (insert_value w c))) now fresh
      (ap (λ n. Some (Present n)) (sym h.2)) (ap (λ n. Some (Present n)) (sym h.2)),
)
waiting_own w stage c flagged now fresh v (Swap k was value) h = (
  sym h.1,
  just_changed (λ s. made_by_stage (Swap k was value) s ≡ Some (Present (insert_value w c))) now fresh
      (ap (λ n. Some (Present n)) (sym h.2)) (ap (λ n. Some (Present n)) (sym h.2)),
)
waiting_own w stage c flagged now fresh v (Delete k) h = absurd (false≢true (ap delete_won (sym flagged) ∙ h.0))

-- the workers are sound after the exchange, which settles the card's key as present
pub workers_after : (m : Machine) (stage : Stages) (sound : Invariant m stage) (c : ℕ) (flagged : stage c ≡ IFlagged) (q : ℕ) (now : Stage)
    → (b : Brings m.words stage c q now) → WorkersAreSound (ichild_machine m c q) (ichild_stages stage c now)
workers_after m stage sound c flagged q now b =
    settled_workers m stage (ichild_words m.words c q) c now (insert_key m.words c) (Present (insert_value m.words c)) sound.workers (record {
      goes = ichild_goes_on m.words stage sound.words c flagged q now b;
      hand = sound.workers.insert_in_hand c (ap insert_open flagged);
      won = inl (ap insert_won flagged);
      own = waiting_own m.words stage c flagged now b.fresh;
      leads = λ k value x n. (b.before k value x n, b.still k value x n);
      led = λ value. (
        λ l. ap Present (one_value (ichild_words m.words c q) (insert_key m.words c) (insert_value m.words c) value b.gained l),
        λ e. (let same : insert_value m.words c ≡ value = cc in
            subst (λ v. LeadsToValue (ichild_words m.words c q) (insert_key m.words c) v 0) same b.gained),
      );
      inserts = λ e. ap insert_open flagged;
      deletes = λ e. absurd (just_changed (λ s. delete_open s ≡ true → ⊥) now b.fresh false≢true false≢true e);
    })
