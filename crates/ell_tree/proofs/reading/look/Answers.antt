-- What a look that counts its steps at its end has done.
use Rattle.std.proofs.Common.{sym, ap, subst, ◌∙◌}
use Rattle.ell_runs.specs.LookPlaces.{SawLookBegin}
use Rattle.ell_runs.specs.Looking.{HasFound}
use Rattle.ell_cards.specs.Models.{PassModel}
use Rattle.ell_runs.specs.declared.view.View.{View}
use Rattle.ell_tree.specs.Looks.{look_steps}
use Rattle.ell_tree.proofs.lemmas.Counts.{counted_all}
use Rattle.ell_tree.proofs.lemmas.LookPlaces.{places_counted}
use Rattle.ell_tree.proofs.lemmas.Looks.{only_counted}
use Rattle.ell_tree.proofs.reading.look.Goals as goal
use Rattle.ell_runs.specs.Depths.{deepest}

pub returns : goal.returns
returns g c =
    let w = c.walk-found in
    let same = ap (λ (m : PassModel). m.view) c.count.ensures in
    let sees = ap (λ (m : PassModel). m.sight) c.count.ensures in
    record {
      found = subst (λ (v : View). HasFound v c.args.key w.result.0) (sym same) w.ensures.found;
      one = ap (λ (v : View). v.looks) same ∙ w.ensures.one;
      mine = w.ensures.mine;
      counted = counted_all c.args.pass.now w.new.pass c.count.new.self w.result.1 w.ensures.uncounted c.count.ensures;
      saw = subst (SawLookBegin c.args.pass.now.sight) (sym sees) w.ensures.saw;
      places = places_counted c.args.steps.table.now.plan w.new.pass c.count.new.self w.result.1 c.count.ensures w.ensures.places;
      only = only_counted c.args.pass.now w.new.pass c.count.new.self (look_steps (deepest c.args.steps.table.now.plan)) w.result.1 w.ensures.only w.ensures.uncounted c.count.ensures;
    }
