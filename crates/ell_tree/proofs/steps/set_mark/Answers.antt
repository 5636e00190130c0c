use Rattle.std.proofs.Common.{Option, IfSome, ◌∙◌, ap, sym, subst}
use Rattle.ell_word.specs.declared.update.Update.{Update}
use Rattle.ell_tree.specs.Helps.{IsLost, met_by_mark}
use Rattle.ell_tree.proofs.lemmas.Marking.{mark_works, mark_met, mark_marked, mark_lost}
use Rattle.ell_tree.proofs.steps.set_mark.Goals as goal

pub returns : goal.returns
returns g c = record {
  keeps_but_met = mark_works c.args.card c.args.parent c.args.was c.args.pass.now c.mark-marked.new.pass c.mark-marked.result c.mark-marked.ensures.step;
  hindrances = mark_met c.args.card c.args.parent c.args.was c.args.pass.now c.mark-marked.new.pass c.mark-marked.result c.mark-marked.ensures.step
      ∙ ap (λ o. met_by_mark c.args.card o c.args.pass.now.view) (sym c.found_instead.ensures);
  marked = λ none. mark_marked c.args.card c.args.parent c.args.was c.args.pass.now c.mark-marked.new.pass c.mark-marked.result c.mark-marked.ensures.step
      (sym c.found_instead.ensures ∙ none);
  lost = subst (λ (o : Option Update). IfSome o (λ u. IsLost c.args.steps.table.now.plan.last_card c.args.card c.args.parent u c.mark-marked.new.pass.view))
      (sym c.found_instead.ensures)
      (mark_lost c.args.card c.args.parent c.args.was c.args.pass.now c.mark-marked.new.pass c.args.steps.table.now.plan.last_card c.mark-marked.result c.mark-marked.ensures.step
      c.requires.parent.node c.mark-marked.ensures.card);
}
