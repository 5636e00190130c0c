use Rattle.std.proofs.Common.{refl}
use Rattle.ell_ops.specs.Meaning.{key_of}
use Rattle.ell_layout.specs.Words.{Words, put}
use Rattle.ell_core.specs.state.Machine.{Worker}
use Rattle.ell_core.specs.history.Stages.{Stage, Stages, is_claimed}
use Rattle.ell_core.specs.history.Invariant.{WorkerIsSound}
use Rattle.ell_layout.proofs.lemmas.Writes.{put_other}
use Rattle.ell_core.proofs.lemmas.keeping.claim.Frames.{Claiming, another, leads_kept, leads_before, claim_goes_on}
use Rattle.ell_core.proofs.lemmas.keeping.going_on.Workers.{worker_on}
use Rattle.ell_core.proofs.lemmas.keeping.going_on.InHand.{unflagged_claimed}

module _ (w after : Words) (stage : Stages) (new : Stage) (h : Claiming w after stage new) where
  -- the stages after the claim
  abbrev stages : Stages
  stages = put stage w.next new

  -- a claim leaves what is said of a worker
  pub worker_kept : (v : Worker) → WorkerIsSound w stage v → WorkerIsSound after stages v
  worker_kept v old = worker_on w after stage stages (claim_goes_on w after stage new h) v
      (λ op x busy at born owns value. (leads_before w after stage new h (key_of op) value x born, leads_kept w after stage new h (key_of op) value x born))
      (λ op c busy holds e hand.
      put_other stage w.next new c (another w after stage new h is_claimed refl c (unflagged_claimed w stage v op c hand)))
      old
