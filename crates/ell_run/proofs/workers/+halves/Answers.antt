use Rattle.std.proofs.Common.{rules, Err, IfErr, ◌≡◌, ◌++◌, ◌/◌, length, map, ap₂, arith, sym, subst, ◌∙◌}
use Rattle.std.proofs.lemmas.List.{take-append-drop}
use Rattle.ell_run.specs.Work.{AreHalves, AreReady, IsWorkedWithin}
use Rattle.ell_run.specs.WorkFault.{StopsWork}
use Rattle.ell_run.proofs.lemmas.Apart.{err_is, stops_of}
use Rattle.ell_run.proofs.lemmas.Paid.{some_each}
use Rattle.ell_run.proofs.workers.+halves.Goals as goal

pub join-first-requires-after_bounds : goal.join-first-requires-after_bounds
join-first-requires-after_bounds g t c κs within =
    let workers = c.args.workers.now in
    let low = c.split_at.result.0.now in
    let high = c.split_at.result.1.now in
    let rows : low ++ high ≡ workers =
    ap₂ ◌++◌ c.split_at.ensures.front c.split_at.ensures.back ∙ take-append-drop (length workers / 2) workers in
    let ready : AreReady c.args.tree.now c.args.parts.now high c.in_ok-left.right =
    c.in_ok-left.ensures.right high (subst (λ row. AreReady c.args.tree.now c.args.parts.now row c.args.pass) (sym rows) c.requires.ready) in
    search rules

pub returns-clause-worked : goal.returns-clause-worked
returns-clause-worked g t c =
    let parting = c.args.parts.now in
    let workers = c.args.workers.now in
    let low = c.split_at.result.0.now in
    let high = c.split_at.result.1.now in
    let rows : low ++ high ≡ workers =
    ap₂ ◌++◌ c.split_at.ensures.front c.split_at.ensures.back ∙ take-append-drop (length workers / 2) workers in
    let ready : AreReady c.args.tree.now parting (low ++ high) c.args.pass =
    subst (λ row. AreReady c.args.tree.now parting row c.args.pass) (sym rows) c.requires.ready in
    let halves : AreHalves parting low c.args.pass c.in_ok-left.left c.in_ok-left.right = search rules in
    let first : IsWorkedWithin c.args.tree.now.plan c.args.tries parting low c.in_ok-left.left c.in_ok-first.field-0.0
    (map (λ piece. piece.items) c.in_ok-first.field-0.1.items) = search rules in
    let second : IsWorkedWithin c.args.tree.now.plan c.args.tries parting high c.in_ok-left.right c.in_ok-second.field-0.0
    (map (λ piece. piece.items) c.in_ok-second.field-0.1.items) = search rules in
    let some = some_each workers low high (omega (arith, c.if-workers-lt2.false)) c.split_at.ensures.front c.split_at.ensures.back in
    let done = c.in_ok-both.ensures c.args.tree.now.plan c.args.tries parting low high c.args.pass c.in_ok-left.left c.in_ok-left.right some.0 some.1 ready halves first second in
    subst (λ row. IsWorkedWithin c.args.tree.now.plan c.args.tries parting row c.args.pass c.in_ok-both.field-0.0
    (map (λ piece. piece.items) c.in_ok-both.field-0.1.items)) rows done

-- the workers of one half have stopped
pub returns-in_err-first-clause-why : goal.returns-in_err-first-clause-why
returns-in_err-first-clause-why g t c =
    let plan = c.args.tree.now.plan in
    let low = c.split_at.result.0.now in
    let halves : AreHalves c.args.parts.now low c.args.pass c.in_ok-left.left c.in_ok-left.right = c.in_ok-left.ensures.halves in
    let said = c.from_residual-in_err-first.result in
    let was : c.join-first.result.0 ≡ Err c.in_err-first.field-0.0 = c.in_err-first.was in
    let stops : IfErr c.join-first.result.0 (StopsWork plan c.in_ok-left.left) = search rules in
    let here : StopsWork plan c.in_ok-left.left c.in_err-first.field-0.0 = subst (λ r. IfErr r (StopsWork plan c.in_ok-left.left)) was stops in
    stops_of plan c.args.pass c.in_ok-left.left said halves.on_left.ownable
    (err_is said c.in_err-first.field-0.0 c.from_residual-in_err-first.ensures.1 (StopsWork plan c.in_ok-left.left) here)

pub returns-in_err-second-clause-why : goal.returns-in_err-second-clause-why
returns-in_err-second-clause-why g t c =
    let plan = c.args.tree.now.plan in
    let low = c.split_at.result.0.now in
    let halves : AreHalves c.args.parts.now low c.args.pass c.in_ok-left.left c.in_ok-left.right = c.in_ok-left.ensures.halves in
    let said = c.from_residual-in_err-second.result in
    stops_of plan c.args.pass c.in_ok-left.right said halves.on_right.ownable (search rules)
