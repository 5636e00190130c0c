use Rattle.std.proofs.Common.{ap, Some, sym, ◌∙◌}
use Rattle.std.specs.Option.{is_some, option_copied_mut}
use Rattle.ell_world.specs.Inside.{worker_in}
use Rattle.ell_core.specs.state.Machine.{Ledger}
use Rattle.ell_world.proofs.lemmas.Ledgers.{ledger_of-updates}
use Rattle.ell_world.proofs.worker.Worker.settle.Goals as goal

pub returns-in-Some : goal.returns-in-Some
returns-in-Some g c =
    let found = ap is_some (sym c.get_mut.ensures.value ∙ ap option_copied_mut c.in-Some.is) in
    let written = c.get_mut.follows.holds c.args.entry in
    ap (λ (ledger : Ledger). record (worker_in c.args.self.now) { ledger = ledger })
    (ledger_of-updates c.args.self.now.ledger.entries (c.get_mut.follows.lender c.args.entry).entries c.args.key (Some c.args.entry) (written.3 found).0)
