use Rattle.std.proofs.Common.{◌<◌, ◌++◌, ◌∷◌, [], length, map, take, take_all, arith, ap, sym, subst, ◌∙◌}
use Rattle.std.proofs.lemmas.List.{map_more}
use Rattle.ell_ops.specs.Contents.{contents_of}
use Rattle.ell_run.specs.Reservation.{HasRounds, counts_in}
use Rattle.ell_run.proofs.reservation.counts_in_turn.Goals as goal

pub counts_in-requires-clause-rounds : goal.counts_in-requires-clause-rounds
counts_in-requires-clause-rounds g c =
    let worker = c.loop-worker.worker in
    let below : worker < length c.args.parts.now.parts = omega (arith, c.loop-worker-test.true, c.workers-worker-end.ensures.value, c.workers-worker-end.ensures.lawful.parts) in
    subst HasRounds (sym c.part.ensures) (c.requires.rounds worker [] below)

pub loop-worker-preserved : goal.loop-worker-preserved
loop-worker-preserved g c =
    let worker = c.loop-worker.worker in
    let parts = c.args.parts.now.parts in
    let counts = counts_in (contents_of c.args.start.now) in
    let below : worker < length parts = omega (arith, c.loop-worker-test.true, c.workers-worker-end.ensures.value, c.workers-worker-end.ensures.lawful.parts) in
    c.in_ok-push.ensures.items ∙ ap (λ l. l ++ c.counts_in.result ∷ []) c.loop-worker.invariant
    ∙ ap (λ n. map counts (take worker parts) ++ n ∷ []) (c.counts_in.ensures ∙ ap counts c.part.ensures)
    ∙ sym (map_more counts parts worker [] below)

pub returns : goal.returns
returns g c =
    let parts = c.args.parts.now.parts in
    c.loop-worker.invariant ∙ ap (map (counts_in (contents_of c.args.start.now)))
    (take_all c.loop-worker.worker parts (omega (arith, c.loop-worker-test.false, c.workers-worker-end.ensures.value, c.workers-worker-end.ensures.lawful.parts)))
