use Rattle.std.proofs.Common.{sym, subst}
use Rattle.ell_cards.specs.Models.{PassModel}
use Rattle.ell_runs.specs.Touching.{IsAtRest}
use Rattle.ell_cards.proofs.table.CardTable.unpin.Goals as goal

pub retract-requires-clause-rest : goal.retract-requires-clause-rest
retract-requires-clause-rest g c =
    subst (λ (m : PassModel). IsAtRest m.view) (sym c.pass.view_is) c.requires.rest
