use Rattle.std.proofs.Common.{ap, sym, ◌∙◌}
use Rattle.ell_run.proofs.lemmas.Busy.{busy_pushed, idle_more}
use Rattle.ell_run.proofs.workers.busy_workers.Goals.{then-not-is_empty+in_ok-push, else-not-is_empty}
use Rattle.ell_run.proofs.workers.busy_workers.Goals as goal

pub loop-worker-preserved : goal.loop-worker-preserved
loop-worker-preserved g c =
    let parting = c.args.parts.now in
    let worker = c.loop-worker.worker in
    elim c.if-not-is_empty.branch [
      | then-not-is_empty+in_ok-push w ↦
          busy_pushed parting worker c.part.result.now c.loop-worker.workers.items _ _ c.loop-worker.invariant w.in_ok-push.ensures.items
          (ap (λ workers. workers.items) w.workers-is) c.part.ensures w.if-not-is_empty.ensures
      | else-not-is_empty w ↦
          ap (λ workers. workers.items) w.workers-is ∙ c.loop-worker.invariant
          ∙ sym (idle_more parting worker c.part.result.now c.part.ensures w.if-not-is_empty.ensures)
    ]
