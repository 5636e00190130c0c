use Rattle.std.proofs.Common.{ap, Some}
use Rattle.ell_world.specs.Inside.{worker_in}
use Rattle.ell_core.specs.state.Machine.{Ledger}
use Rattle.ell_world.proofs.lemmas.Ledgers.{ledger_of-updates}
use Rattle.ell_world.proofs.worker.Worker.own.Goals as goal

pub returns : goal.returns
returns g c =
    ap (λ (ledger : Ledger). record (worker_in c.args.self.now) { ledger = ledger })
    (ledger_of-updates c.args.self.now.ledger.entries c.insert.new.self.entries c.args.key (Some c.args.entry) c.in_ok-insert.ensures.updates.0)
