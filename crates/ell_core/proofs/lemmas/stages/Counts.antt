use Rattle.std.proofs.Common.{◌≡◌, ◌≢◌, ℕ, ◌⊎◌, Bool, true, false, Option, Some, None, inl, inr, refl, sym, ap, ◌∙◌}
use Rattle.ell_ops.specs.declared.op.Op.{Op}
use Rattle.ell_ops.specs.Meaning.{key_of}
use Rattle.ell_core.specs.state.Machine.{Ledger, Worker}
use Rattle.ell_core.specs.soundness.Holds.{with_made}
use Rattle.ell_core.specs.history.Stages.{Stages, made_by_stage, effective_at, effective_at_of}
use Rattle.ell_layout.proofs.lemmas.Writes.{put_other}
use Rattle.ell_core.specs.declared.view.Entry.{Entry}

-- what an operation has made of its key leaves the other keys
made_other : (ledger : Ledger) (key : ℕ) (made : Option Entry) (k : ℕ) → k ≢ key
    → with_made ledger key made k ≡ ledger k
made_other ledger key None k n = refl
made_other ledger key (Some present) k n = put_other ledger key (Some present) k n

-- a key counts as before where the card in hand has made the same of its key, or is for another key
counts_same_of : (stage new : Stages) (ledger : Ledger) (operation : Option Op) (hand : Option ℕ) (flagged : Bool) (k : ℕ)
    → ((op : Op) (d : ℕ) → operation ≡ Some op → hand ≡ Some d → flagged ≡ true
    → (made_by_stage op (new d) ≡ made_by_stage op (stage d)) ⊎ (k ≢ key_of op))
    → effective_at_of new ledger operation hand flagged k ≡ effective_at_of stage ledger operation hand flagged k
counts_same_of stage new ledger (Some op) (Some d) true k h = elim (h op d refl refl refl) [
  | inl e ↦ ap (λ made. with_made ledger (key_of op) made k) e
  | inr n ↦ made_other ledger (key_of op) (made_by_stage op (new d)) k n
      ∙ sym (made_other ledger (key_of op) (made_by_stage op (stage d)) k n)
]
counts_same_of stage new ledger None _ _ k h = refl
counts_same_of stage new ledger (Some op) None _ k h = refl
counts_same_of stage new ledger (Some op) (Some d) false k h = refl

-- so of a worker
pub counts_same : (stage new : Stages) (v : Worker) (k : ℕ)
    → ((op : Op) (d : ℕ) → v.operation ≡ Some op → v.card ≡ Some d → v.flagged ≡ true
    → (made_by_stage op (new d) ≡ made_by_stage op (stage d)) ⊎ (k ≢ key_of op))
    → effective_at new v k ≡ effective_at stage v k
counts_same stage new v k h = counts_same_of stage new v.ledger v.operation v.card v.flagged k h

-- where a flagged card has made nothing of its key, the ledger counts
counts_unmade_of : (stage : Stages) (ledger : Ledger) (operation : Option Op) (card : Option ℕ) (flagged : Bool)
    → ((op : Op) (c : ℕ) → operation ≡ Some op → card ≡ Some c → flagged ≡ true → made_by_stage op (stage c) ≡ None)
    → effective_at_of stage ledger operation card flagged ≡ ledger
counts_unmade_of stage ledger (Some op) (Some c) true h = ap (with_made ledger (key_of op)) (h op c refl refl refl)
counts_unmade_of stage ledger (Some op) (Some c) false h = refl
counts_unmade_of stage ledger (Some op) None flagged h = refl
counts_unmade_of stage ledger None card flagged h = refl

-- so of a worker
pub counts_unmade : (stage : Stages) (v : Worker)
    → ((op : Op) (c : ℕ) → v.operation ≡ Some op → v.card ≡ Some c → v.flagged ≡ true → made_by_stage op (stage c) ≡ None)
    → effective_at stage v ≡ v.ledger
counts_unmade stage v h = counts_unmade_of stage v.ledger v.operation v.card v.flagged h

-- what a worker's flagged card has made of its key counts
pub counts_made : (stage : Stages) (v : Worker) (op : Op) (c : ℕ) → v.operation ≡ Some op → v.card ≡ Some c → v.flagged ≡ true
    → effective_at stage v ≡ with_made v.ledger (key_of op) (made_by_stage op (stage c))
counts_made stage v op c busy holds flagged = λ t. effective_at_of stage v.ledger (busy t) (holds t) (flagged t)
