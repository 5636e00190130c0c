use Rattle.std.proofs.Common.{rules, [], ◌∷◌, ◌++◌, ◌≤◌, length, map, arith, ap, sym, subst, ◌∙◌}
use Rattle.ell_run.specs.Pieces.{lists_of}
use Rattle.ell_run.specs.Work.{IsWorkedWithin}
use Rattle.ell_run.proofs.lemmas.Apart.{none_worked}
use Rattle.ell_run.proofs.lemmas.Fronts.{first_label, one_worked}
use Rattle.ell_run.proofs.lemmas.Paid.{within_one}
use Rattle.ell_run.proofs.workers.do_one.Goals.{in_default-via-then-workers-lt1, in_default-via-else-workers-lt1+else-workers-lt2}
use Rattle.ell_run.proofs.workers.do_one.Goals as goal

pub returns : goal.returns
returns g c =
    let pushed = c.in_ok-push.ensures.items ∙ ap (λ pieces. pieces ++ c.in_ok-piece.piece ∷ []) c.new-pieces.ensures.items in
    record {
      worked =
          one_worked c.args.tree.now.plan c.args.tries c.args.parts.now c.args.workers.now 0 _ c.args.pass c.relabel.new.self c.work_off.new.pass c.part.result.now c.in_ok-piece.piece.items
          (map (λ piece. piece.items) c.push.new.self.items) (omega (arith, c.in-len1.len_at_least)) (omega (arith, c.in-len1.len_below))
          c.relabel.ensures c.part.ensures c.in_ok-piece.ensures.worked (ap (map (λ piece. piece.items)) pushed);
      within =
          within_one c.args.tree.now.plan c.args.parts.now c.args.workers.now 0 c.args.pass c.relabel.new.self c.work_off.new.pass c.part.result.now
          (omega (arith, c.in-len1.len_at_least)) (omega (arith, c.in-len1.len_below)) _ c.relabel.ensures c.part.ensures c.in_ok-piece.ensures.bounded;
      label =
          c.in_ok-piece.ensures.worked.own.label ∙ ap (λ pass. pass.label) c.relabel.ensures
          ∙ first_label c.args.pass c.args.workers.now 0 (omega (arith, c.in-len1.len_at_least));
    }

-- there is no worker
pub returns-in_default : goal.returns-in_default
returns-in_default g c =
    let plan = c.args.tree.now.plan in
    let workers = c.args.workers.now in
    let none : length workers ≤ 0 = elim c.in_default.branch [
      | in_default-via-then-workers-lt1 w ↦ search rules
      | in_default-via-else-workers-lt1+else-workers-lt2 w ↦ search rules
    ] in
    subst (λ items. IsWorkedWithin plan c.args.tries c.args.parts.now workers c.args.pass c.args.pass (lists_of items)) (sym c.new-pieces.ensures.items)
    (none_worked plan c.args.tries c.args.parts.now workers c.args.pass none c.requires.ready.idle)
