-- Each turn reads the line at its index, and the last turn has read them all.
use Rattle.std.proofs.Common.{◌≡◌, Result, Ok, Err, IfErr, OnErr, ap, sym, ◌∙◌}
use Rattle.std.proofs.lemmas.Result.{err_from_is_err_and, IfErr-weaker, IfOk-weaker}
use Rattle.std.specs.Iterator.Adapters.{enumerate_source, enumerate_count}
use Rattle.ell_text.specs.declared.replay.ReplayFault.{ReplayFault}
use Rattle.ell_text.specs.declared.replay.ReplayFault.TheVariants.{Ended}
use Rattle.ell_text.specs.replays.Draft.{draft_value}
use Rattle.ell_text.specs.replays.Script.{script_value}
use Rattle.ell_text.proofs.lemmas.Scripts.{drafted_none, drafted_more, drafted_fault, drafted_stops, drafted_script, drafted_ended}
use Rattle.ell_text.proofs.replay.read_replay.Goals as goal

-- two facts of a fault are one
both : {X : Type 0} (P : Type 0) (r : Result X ReplayFault) → IfErr r (λ fault. fault ≡ Ended) → OnErr r P → IfErr r (λ fault. (fault ≡ Ended) × P)
both P (Ok x) fault fact = tt
both P (Err e) fault fact = (fault, fact)

pub loop-index-init : goal.loop-index-init
loop-index-init g c =
    let start = c.into_iter-index-iterator.ensures.into_iter_gives in
    record {
      drafted = drafted_none _ _ _ _ (ap enumerate_source start ∙ c.enumerate-index-items.ensures.source ∙ c.lines.ensures.value)
          (ap enumerate_count start ∙ c.enumerate-index-items.ensures.count) c.new-draft.ensures.value;
      fits = c.new-draft.ensures.fits;
    }

pub loop-index-preserved : goal.loop-index-preserved
loop-index-preserved g c =
    let step = c.in-Some.ensures.steps in
    let done = c.in_ok-append_line.ensures in
    record {
      drafted = drafted_more _ _ c.in-Some.line.now _ (draft_value c.loop-index.draft) (rw step.0 at c.loop-index.invariant.drafted)
          _ _ step.2 (rw step.1 at done.sound) done.ok;
      fits = done.fits;
    }

pub returns-in_err-append_line-clause-fault : goal.returns-in_err-append_line-clause-fault
returns-in_err-append_line-clause-fault g c =
    let step = c.in-Some.ensures.steps in
    let failed = c.in_err-append_line.ensures in
    let known = rw step.0 at c.loop-index.invariant.drafted in
    let error = err_from_is_err_and c.from_residual.result c.from_residual.ensures.1 in
    rw (error.1, error.2) (λ other. drafted_fault _ _ c.in-Some.line.now _ (draft_value c.loop-index.draft) known _ (rw step.1 at (failed.fault other)))

pub returns-in_err-append_line-clause-no_memory : goal.returns-in_err-append_line-clause-no_memory
returns-in_err-append_line-clause-no_memory g c =
    let step = c.in-Some.ensures.steps in
    let failed = c.in_err-append_line.ensures in
    let known = rw step.0 at c.loop-index.invariant.drafted in
    let error = err_from_is_err_and c.from_residual.result c.from_residual.ensures.1 in
    rw (error.1, error.2) (λ is. drafted_stops _ _ c.in-Some.line.now _ (draft_value c.loop-index.draft) known (rw step.1 at (failed.no_memory_sound is)) (failed.no_memory is))

pub returns-clause-ok : goal.returns-clause-ok
returns-clause-ok g c =
    let step = c.in-None.ensures.steps in
    let known = rw step.0.0 at c.loop-index.invariant.drafted in
    IfOk-weaker c.finish.result _ _ (λ s found. drafted_script _ _ (draft_value c.loop-index.draft) known (script_value s) found) c.finish.ensures.value

pub returns-clause-fault : goal.returns-clause-fault
returns-clause-fault g c =
    let step = c.in-None.ensures.steps in
    let known = rw step.0.0 at c.loop-index.invariant.drafted in
    IfErr-weaker c.finish.result _ _ (λ fault ended other. drafted_ended _ _ (draft_value c.loop-index.draft) known ended.1 ∙ ap Err (sym ended.0))
    (both _ c.finish.result c.finish.ensures.fault c.finish.ensures.ended)
