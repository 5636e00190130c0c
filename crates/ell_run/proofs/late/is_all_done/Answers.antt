use Rattle.std.proofs.Common.{◌≡◌, ◌≤◌, [], length, map, get_or, arith, ap, sym, subst, ◌∙◌, ⊎_elim}
use Rattle.std.proofs.lemmas.Bool.{cases_eq}
use Rattle.std.proofs.lemmas.List.{get_or-map}
use Rattle.ell_parts.specs.PartedOps.{part}
use Rattle.ell_run.specs.Pieces.{count_of}
use Rattle.ell_run.proofs.late.is_all_done.Goals as goal

pub loop-worker-preserved : goal.loop-worker-preserved
loop-worker-preserved g c = λ worker below.
    let parting = c.args.parts.now in
    let pieces = c.args.pieces.now in
    let here = c.loop-worker.worker in
    let end = c.workers-worker-end.ensures.value in
    let within = c.loop-worker-test.true in
    let one = c.requires in
    let seen : get_or (map (λ piece. piece.items) pieces) here [] ≡ c.index-pieces-worker.result.items =
    get_or-map (λ piece. piece.items) pieces here c.index-pieces-worker.result [] (omega arith) ∙ ap (λ piece. piece.items) (sym c.index-pieces-worker.is) in
    let long = c.if-len-part.false in
    ⊎_elim
    (λ same. subst (λ v. length (part parting v) ≤ count_of (map (λ piece. piece.items) pieces) v) (sym same)
    (omega (arith, ap length seen, ap length c.part.ensures, c.len.ensures)))
    (λ other. c.loop-worker.invariant worker (omega arith))
    (cases_eq worker here)

pub returns-clause-done : goal.returns-clause-done
returns-clause-done g c = λ yes worker below.
    let end = c.workers-worker-end.ensures.value in
    let past = c.loop-worker-test.false in
    c.loop-worker.invariant worker (omega arith)
