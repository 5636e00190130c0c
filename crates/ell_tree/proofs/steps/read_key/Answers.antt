use Rattle.std.proofs.Common.{refl, sym, ap, subst}
use Rattle.ell_runs.specs.declared.view.Told.TheVariants.{Key}
use Rattle.ell_runs.specs.declared.view.View.{View}
use Rattle.ell_cards.specs.Models.{PassModel}
use Rattle.ell_runs.specs.Views.{IsTold}
use Rattle.ell_cards.proofs.lemmas.views.Steps.{key_told}
use Rattle.ell_tree.proofs.lemmas.Reading.{key_walks}
use Rattle.ell_tree.proofs.steps.read_key.Goals as goal

pub returns : goal.returns
returns g c =
    let k = c.key_of-key in
    record {
      keeps_all = key_walks c.args.pass.now k.new.pass c.count.new.self c.args.node k.result k.ensures.step c.count.ensures;
      node = refl;
      told = subst (λ (v : View). IsTold v (Key c.args.node k.result)) (sym (ap (λ (m : PassModel). m.view) c.count.ensures))
          (key_told c.args.pass.now k.new.pass c.args.node k.result k.ensures.step);
    }
