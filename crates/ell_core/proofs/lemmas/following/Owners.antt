use Rattle.std.proofs.Common.{◌≡◌, ◌≢◌, ℕ, ◌↔◌, ◌⊎◌, inl, inr, true, Option, Some, None, refl, sym, ap, ◌∙◌}
use Rattle.std.proofs.lemmas.Bool.{false≢true}
use Rattle.ell_ops.specs.declared.op.Op.{Op}
use Rattle.ell_ops.specs.Meaning.{key_of}
use Rattle.ell_word.specs.Node.{IsInternal}
use Rattle.ell_word.specs.Word.{unpacked}
use Rattle.ell_word.specs.declared.update.State.{State}
use Rattle.ell_word.specs.declared.update.State.TheVariants as state
use Rattle.ell_core.specs.state.Machine.{Machine}
use Rattle.ell_core.specs.acts.Searching.{IsClean}
use Rattle.ell_layout.specs.Words.{IsLeaf}
use Rattle.ell_core.specs.state.Handovers.{WorkerIsIdle}
use Rattle.ell_core.specs.tree.Tree.{Reached}
use Rattle.ell_core.specs.soundness.Sound.{WorkerOwns, MayChange, IsInHand}
use Rattle.ell_trie.specs.Ranges.{at_leaf}
use Rattle.ell_core.specs.history.Stages.{Stages}
use Rattle.ell_core.specs.history.Invariant.{Invariant}
use Rattle.ell_core.proofs.lemmas.following.Sound.{flag_sound}
use Rattle.ell_trie.proofs.lemmas.order.Bounds.{leaf_key, leaf_holds}
use Rattle.ell_core.specs.declared.view.Entry.TheVariants.{Present}

-- the invariant holds of the state
module _ (m : Machine) (stage : Stages) (sound : Invariant m stage) where
  -- a worker that stands at a leaf sees by its key and its value whether its ledger has the operation's key present, and how
  pub leaf_key_tells : (i : ℕ) (op : Op) (x : ℕ) → (m.worker i).operation ≡ Some op → (m.worker i).search.node ≡ Some x
      → IsLeaf x → WorkerOwns (m.worker i) (key_of op) → (value : ℕ) → ((m.words.key x ≡ key_of op) × (m.words.value x ≡ value)) ↔ ((m.worker i).ledger (key_of op) ≡ Some (Present value))
  leaf_key_tells i op x busy stands outer owns value =
      let leads = ((sound.workers.each i).stands op x busy stands).leads owns value in (
        λ has. leads.0 (at_leaf outer has.0 has.1),
        λ present. (
          leaf_key m.words.key m.words.child (key_of op) x outer (leads.1 present),
          leaf_holds m.words.key m.words.child (key_of op) x outer (leads.1 present),
        ),
      )

  -- a worker with a flagged card in hand has an operation, whose key it may change
  flagged_owns : (j : ℕ) → (m.worker j).flagged ≡ true → (k : ℕ) × MayChange (m.worker j) k
  flagged_owns j flagged = by_operation (m.worker j).operation refl
    where
      by_operation : (operation : Option Op) → (m.worker j).operation ≡ operation → (k : ℕ) × MayChange (m.worker j) k
      by_operation None e =
          absurd (false≢true (sym (ap (λ v. v.flagged) ((sound.workers.each j).free e)) ∙ flagged))
      by_operation (Some op) e = (key_of op, (sound.workers.each j).owned op e)

  -- nothing is flagged where a worker with nothing in hand owns every key
  none_in_hand : (i c : ℕ) → ((j k : ℕ) → MayChange (m.worker j) k → (j ≡ i) ⊎ WorkerOwns (m.worker i) k) → WorkerIsIdle (m.worker i) → ¬ IsInHand m c
  none_in_hand i c all idle hand =
      let own = flagged_owns hand.worker hand.flagged in
      let same : hand.worker ≡ i = elim (all hand.worker own.0 own.1) [
        | inl e ↦ e
        | inr owns ↦ elim own.1 [
          | inl its ↦ sound.workers.one_owner hand.worker i own.0 its owns
          | inr shared ↦ absurd (sound.workers.apart hand.worker i own.0 shared owns)
        ]
      ] in
      false≢true (sym (ap (λ v. v.flagged) idle) ∙ (ap (λ j. (m.worker j).flagged) (sym same) ∙ hand.flagged))

  -- where a worker with nothing in hand owns every key that is owned, the update words of all reached nodes are clean
  pub all_clean : (i : ℕ) → ((j k : ℕ) → MayChange (m.worker j) k → (j ≡ i) ⊎ WorkerOwns (m.worker i) k) → WorkerIsIdle (m.worker i)
      → (x : ℕ) → Reached m.words x → IsInternal x → IsClean (m.words.update x)
  all_clean i all idle x reached inner = by_state (unpacked (m.words.update x)).state refl
    where
      dirty : (s : State) → (unpacked (m.words.update x)).state ≡ s → s ≢ state.Clean → ⊥
      dirty s e not_clean = none_in_hand i (unpacked (m.words.update x)).card all idle
          (flag_sound m stage sound x s reached inner e not_clean).in_hand

      by_state : (s : State) → (unpacked (m.words.update x)).state ≡ s → s ≡ state.Clean
      by_state state.Clean e = refl
      by_state state.IFlag e = absurd (dirty state.IFlag e (λ f. cc))
      by_state state.DFlag e = absurd (dirty state.DFlag e (λ f. cc))
      by_state state.Mark e = absurd (dirty state.Mark e (λ f. cc))
