use Rattle.std.proofs.Common.{sym, subst}
use Rattle.ell_word.specs.declared.link.Link.{Link}
use Rattle.ell_layout.specs.declared.field.Field.TheVariants.{L}
use Rattle.ell_runs.specs.declared.view.Told.TheVariants.{Info, Expects}
use Rattle.ell_runs.specs.Views.{IsTold}
use Rattle.ell_cards.proofs.lemmas.views.Steps.{info_told, tag_told}
use Rattle.ell_tree.proofs.lemmas.Reading.{info_walks}
use Rattle.ell_tree.proofs.steps.read_leaf.Goals as goal

pub returns : goal.returns
returns g c =
    let w = c.info-word in
    let says = sym c.of.ensures.link in
    record {
      keeps_all = info_walks c.args.pass.now w.new.pass c.args.card L w.result w.ensures.step;
      told = subst (λ (l : Link). IsTold w.new.pass.view (Info c.args.card L l.node)) says
          (info_told c.args.pass.now w.new.pass c.args.card L w.result w.ensures.step);
      expects = subst (λ (l : Link). IsTold w.new.pass.view (Expects c.args.card l.tag)) says
          (tag_told c.args.pass.now w.new.pass c.args.card w.result w.ensures.step);
    }
