use Rattle.std.proofs.Common.{subst}
use Rattle.ell_word.specs.Link.{linked}
use Rattle.ell_runs.specs.declared.view.Told.TheVariants.{Met, Frozen}
use Rattle.ell_runs.specs.Views.{IsTold}
use Rattle.ell_cards.proofs.lemmas.views.Steps.{frozen_told, frozen_met}
use Rattle.ell_tree.proofs.lemmas.Links.{node_same}
use Rattle.ell_tree.proofs.lemmas.Reading.{child_walks}
use Rattle.ell_tree.proofs.steps.read_child.Goals as goal

pub returns : goal.returns
returns g c =
    let f = c.frozen_child-child in
    let says = node_same f.result f.ensures.word in
    record {
      keeps_all = child_walks c.args.pass.now f.new.pass c.args.card c.args.parent c.args.right (linked f.result) f.ensures.step;
      told = subst (λ x. IsTold f.new.pass.view (Frozen c.args.card c.args.right x)) says
          (frozen_told c.args.pass.now f.new.pass c.args.card c.args.parent c.args.right (linked f.result) f.ensures.step);
      met = subst (λ x. IsTold f.new.pass.view (Met x)) says
          (frozen_met c.args.pass.now f.new.pass c.args.card c.args.parent c.args.right (linked f.result) f.ensures.step);
    }
