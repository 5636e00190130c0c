-- What a search that counts its steps at its end has done.
use Rattle.std.proofs.Common.{◌+◌, ◌*◌, sym, ap, subst}
use Rattle.ell_cards.specs.Models.{PassModel}
use Rattle.ell_runs.specs.declared.view.View.{View}
use Rattle.ell_tree.specs.Searches.{EndsAt}
use Rattle.ell_tree.proofs.lemmas.Counts.{counted_all}
use Rattle.ell_tree.proofs.lemmas.Keeping.{keeps_but_search_counted}
use Rattle.ell_tree.proofs.searching.search.Goals as goal
use Rattle.ell_runs.specs.Depths.{deepest}

pub returns : goal.returns
returns g c =
    let w = c.walk-made in
    record {
      keeps_but_search = keeps_but_search_counted c.args.pass.now w.new.pass c.count.new.self (3 * deepest c.args.steps.table.now.plan + 5) w.result.1 w.ensures.keeps_but_search w.ensures.uncounted c.count.ensures;
      counted = counted_all c.args.pass.now w.new.pass c.count.new.self w.result.1 w.ensures.uncounted c.count.ensures;
      ends = subst (λ (v : View). EndsAt c.args.steps.table.now.plan v c.args.op w.result.0)
          (sym (ap (λ (m : PassModel). m.view) c.count.ensures)) w.ensures.ends;
    }
