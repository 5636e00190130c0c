use Rattle.std.proofs.Common.{◌++◌, map, ap, sym, subst, ◌∙◌}
use Rattle.std.proofs.lemmas.List.{map-append}
use Rattle.ell_run.specs.Work.{IsWorked}
use Rattle.ell_run.proofs.lemmas.Fronts.{label_both}
use Rattle.ell_run.proofs.lemmas.Halves.{worked_both}
use Rattle.ell_run.proofs.lemmas.Paid.{within_both}
use Rattle.ell_run.proofs.workers.both.Goals as goal

pub returns-in-Ok : goal.returns-in-Ok
returns-in-Ok g c = λ plan tries parting low high pass left right some_low some_high ready halves first second. record {
  worked =
      subst (IsWorked plan tries parting (low ++ high) pass c.in-Ok.pass)
      (sym (ap (map (λ piece. piece.items)) c.in_ok-append.ensures.items ∙ map-append (λ piece. piece.items) c.args.first.1.items c.args.second.1.items))
      (worked_both c.args.tree.now parting low high pass left right ready halves plan tries c.args.first.0 c.args.second.0 c.in-Ok.pass
      (map (λ piece. piece.items) c.args.first.1.items) (map (λ piece. piece.items) c.args.second.1.items) first.worked second.worked c.in-Ok.ensures.joined);
  within =
      within_both plan parting low high pass left right c.args.first.0 c.args.second.0 c.in-Ok.pass some_low some_high halves first.within second.within
      c.in-Ok.ensures.joined;
  label = c.in-Ok.ensures.joined.own.label ∙ first.label ∙ label_both pass left low high some_low;
}
