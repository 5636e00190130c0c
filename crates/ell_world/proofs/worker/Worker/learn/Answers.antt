use Rattle.std.proofs.Common.{ap}
use Rattle.ell_core.specs.acts.Exchanges.{knowing}
use Rattle.ell_world.specs.Inside.{worker_in}
use Rattle.ell_world.proofs.lemmas.Knowledge.{known_of-updates}
use Rattle.ell_world.proofs.worker.Worker.learn.Goals as goal

pub returns-clause-learned : goal.returns-clause-learned
returns-clause-learned g c =
    ap (knowing (worker_in c.args.self.now))
    (known_of-updates c.args.self.now.facts.keys c.insert.new.self.keys c.args.fact c.in_ok-insert.ensures.updates.0)
