use Rattle.std.proofs.Common.{◌≡◌, map, length, arith, ap, sym, subst, ◌∙◌}
use Rattle.std.proofs.lemmas.List.{length-map}
use Rattle.ell_tree.specs.Ledgers.{present_in}
use Rattle.ell_run.specs.Steps.{AreWithin}
use Rattle.ell_run.specs.Work.{AreReady, IsWorked, label_after}
use Rattle.ell_run.proofs.lemmas.Opened.{busy_ready}
use Rattle.ell_run.proofs.lemmas.Rows.{length-pieces}
use Rattle.ell_run.proofs.workers.work.Goals as goal

pub do_workers-requires-clause-ready : goal.do_workers-requires-clause-ready
do_workers-requires-clause-ready g c = λ κs outlives.
    subst (λ workers. AreReady c.args.tree.now c.args.parts.now workers c.args.pass) (sym (c.deref.ensures.value ∙ c.in_ok-workers.ensures.busy))
    (busy_ready c.args.tree.now c.args.parts.now c.args.pass c.in_ok-workers.ensures.lawful c.requires.idle.0 c.requires.idle.1 c.requires.owned)

pub with_empty_pieces-requires : goal.with_empty_pieces-requires
with_empty_pieces-requires g c =
    sym (length-map c.in_ok-pass.pieces.items (λ piece. piece.items))
    ∙ length-pieces (present_in c.args.pass) c.args.parts.now c.deref.result.now (map (λ piece. piece.items) c.in_ok-pass.pieces.items) c.in_ok-pass.ensures.worked.worked.told
    ∙ ap length (c.deref.ensures.value ∙ c.in_ok-workers.ensures.busy)

pub returns-clause-worked : goal.returns-clause-worked
returns-clause-worked g c =
    let plan = c.args.tree.now.plan in
    let parting = c.args.parts.now in
    let same = c.deref.ensures.value ∙ c.in_ok-workers.ensures.busy in
    let within = subst (λ workers. AreWithin plan parting workers c.args.pass c.in_ok-pass.pass) same c.in_ok-pass.ensures.worked.within in
    record {
      worked =
          c.in_ok-with_empty_pieces.ensures plan c.args.tries c.args.pass c.in_ok-pass.pass
          (subst (λ workers. IsWorked plan c.args.tries parting workers c.args.pass c.in_ok-pass.pass (map (λ piece. piece.items) c.in_ok-pass.pieces.items)) same
          c.in_ok-pass.ensures.worked.worked);
      bounded = omega (arith, within.bounded);
      total = λ plain. let all = within.total plain in omega (arith, all);
    }

pub returns-clause-label : goal.returns-clause-label
returns-clause-label g c =
    subst (λ workers. c.in_ok-pass.pass.label ≡ label_after c.args.pass workers) (c.deref.ensures.value ∙ c.in_ok-workers.ensures.busy) c.in_ok-pass.ensures.worked.label
