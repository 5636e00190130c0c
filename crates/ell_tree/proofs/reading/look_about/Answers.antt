use Rattle.ell_runs.specs.Plans.{flat_from}
use Rattle.ell_tree.proofs.lemmas.Cursors.{about_mine}
use Rattle.ell_tree.proofs.reading.look_about.Goals as goal

pub returns-clause-mine : goal.returns-clause-mine
returns-clause-mine g c =
    let w = c.walk_about-made in
    about_mine (flat_from c.args.steps.table.now.plan) c.args.pass.now w.new.pass w.result.0 w.ensures.found w.ensures.mine w.ensures.missed w.ensures.only.worker
