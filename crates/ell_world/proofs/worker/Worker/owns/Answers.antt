use Rattle.std.proofs.Common.{ap, subst, ◌≢◌, ◌↔◌, IsTrue, Bool, None, ◌∙◌, sym}
use Rattle.std.specs.Option.{is_some}
use Rattle.ell_world.specs.Inside.{worker_in}
use Rattle.ell_world.proofs.lemmas.Ledgers.{lookup-ledger_of, is_some-not_none}
use Rattle.ell_world.proofs.worker.Worker.owns.Goals as goal

pub returns : goal.returns
returns g c =
    let found = (worker_in c.args.self.now).ledger c.args.key in
    subst (λ (r : Bool). IsTrue r ↔ (found ≢ None))
    (sym (c.contains_key.ensures ∙ ap is_some (lookup-ledger_of c.args.self.now.ledger.entries c.args.key)))
    (is_some-not_none found)
