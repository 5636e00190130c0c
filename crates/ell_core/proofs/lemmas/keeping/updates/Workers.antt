use Rattle.std.proofs.Common.{◌≡◌, ℕ, inl}
use Rattle.ell_layout.specs.Words.{Words, put, with_update}
use Rattle.ell_core.specs.state.Machine.{Worker}
use Rattle.ell_core.specs.history.Stages.{Stage, Stages, effective_at}
use Rattle.ell_core.specs.history.Invariant.{WorkerIsSound, WordsAreSound}
use Rattle.ell_layout.proofs.lemmas.Writes.{put_other}
use Rattle.ell_core.proofs.lemmas.keeping.updates.Cards.{UpdateExchange, kind_of, update_goes_on}
use Rattle.ell_core.proofs.lemmas.keeping.going_on.Workers.{worker_on}
use Rattle.ell_core.proofs.lemmas.keeping.going_on.InHand.{OtherInHand}
use Rattle.ell_core.proofs.lemmas.stages.Counts.{counts_same}

module _ (w : Words) (stage : Stages) (x value c : ℕ) (new : Stage) (e : UpdateExchange w stage x value c new) where
  -- a worker stays sound, if the card that it has in hand without its flag is another one
  pub worker_later : WordsAreSound w stage → (v : Worker) → OtherInHand v c → WorkerIsSound w stage v
      → WorkerIsSound (with_update w x value) (put stage c new) v
  worker_later sound v other k = worker_on w (with_update w x value) stage (put stage c new)
      (update_goes_on w stage x value c new e sound) v
      (λ op y busy at born owns held. (λ l. l, λ l. l)) (λ op d busy holds f hand. put_other stage c new d (other op d busy holds f)) k

  -- a worker's effective ledger counts as before
  pub counts_later : (v : Worker) (k : ℕ) → effective_at (put stage c new) v k ≡ effective_at stage v k
  counts_later v k = counts_same stage (put stage c new) v k
      (λ op d busy holds f. inl ((kind_of w stage x value c new e d).made op))
