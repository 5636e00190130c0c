use Rattle.std.proofs.Common.{◌≡◌, ◌<◌, ◌+◌, ap, map, length, arith, sym, subst, ◌∙◌}
use Rattle.std.specs.List.{insert}
use Rattle.std.proofs.lemmas.List.Edits.{length-insert}
use Rattle.ell_run.specs.Work.{IsWorked}
use Rattle.ell_run.proofs.lemmas.Filling.{mixed, mixed_none, mixed_all, mixed_room, worked_idle, length-mixed_idle, busy_here, map-insert}
use Rattle.ell_run.proofs.pieces.with_empty_pieces.Goals.{then-is_empty+in_ok-insert, else-is_empty}
use Rattle.ell_run.proofs.pieces.with_empty_pieces.Goals as goal

pub loop-worker-init : goal.loop-worker-init
loop-worker-init g c =
    let parting = c.args.parts.now in
    record {
      count = c.requires ∙ ap length (sym (mixed_none parting));
      worked = λ plan tries before after h. subst (λ workers. IsWorked plan tries parting workers before after (map (λ piece. piece.items) c.args.pieces.items)) (sym (mixed_none parting)) h;
    }

pub insert-requires : goal.insert-requires
insert-requires g c = let count = c.loop-worker.invariant.count in omega (arith, mixed_room c.args.parts.now c.loop-worker.worker)

pub loop-worker-preserved : goal.loop-worker-preserved
loop-worker-preserved g c =
    let parting = c.args.parts.now in
    let worker = c.loop-worker.worker in
    let ps = c.loop-worker.pieces.items in
    let count = c.loop-worker.invariant.count in
    let below : worker < parting.workers = subst (λ end. worker < end) c.workers-worker-end.ensures.value c.loop-worker-test.true in
    elim c.if-is_empty.branch [
      | then-is_empty+in_ok-insert w ↦
          let none = w.if-is_empty.ensures in
          let items = ap (λ pieces. pieces.items) w.pieces-is ∙ w.in_ok-insert.ensures.items in record {
            count = ap length items ∙ omega (
              arith,
              length-insert ps worker w.new.result (omega (arith, mixed_room parting worker)),
              length-mixed_idle parting worker c.part.result.now below c.part.ensures none,
            );
            worked = λ plan tries before after h.
                subst (IsWorked plan tries parting (mixed parting (worker + 1)) before after)
                (sym (ap (map (λ piece. piece.items)) items ∙ map-insert (λ piece. piece.items) ps worker w.new.result
                ∙ ap (insert (map (λ piece. piece.items) ps) worker) w.new.ensures.items))
                (worked_idle plan tries parting worker c.part.result.now before after (map (λ piece. piece.items) ps) below c.part.ensures none
                (c.loop-worker.invariant.worked plan tries before after h));
          }
      | else-is_empty w ↦
          let same = ap (λ pieces. pieces.items) w.pieces-is in
          let here = busy_here parting worker c.part.result.now below c.part.ensures w.if-is_empty.ensures in record {
            count = ap length same ∙ count ∙ ap length (sym here);
            worked = λ plan tries before after h.
                subst (λ workers. IsWorked plan tries parting workers before after (map (λ piece. piece.items) c.if-is_empty.pieces.items)) (sym here)
                (subst (IsWorked plan tries parting (mixed parting worker) before after) (sym (ap (map (λ piece. piece.items)) same))
                (c.loop-worker.invariant.worked plan tries before after h));
          }
    ]

pub returns : goal.returns
returns g c = λ plan tries before after h.
    let parting = c.args.parts.now in
    let end = c.workers-worker-end.ensures.value in
    let past = c.loop-worker-test.false in
    let within = c.loop-worker.auto.worker-end in
    let all : c.loop-worker.worker ≡ parting.workers = omega arith in
    subst (λ workers. IsWorked plan tries parting workers before after (map (λ piece. piece.items) c.loop-worker.pieces.items)) (mixed_all parting c.loop-worker.worker all)
    (c.loop-worker.invariant.worked plan tries before after h)
