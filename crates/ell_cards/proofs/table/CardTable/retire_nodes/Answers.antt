use Rattle.std.proofs.Common.{sym, subst}
use Rattle.ell_cards.specs.Models.{PassModel}
use Rattle.ell_cards.specs.RetiringInSlots.{MayRetire}
use Rattle.ell_cards.proofs.table.CardTable.retire_nodes.Goals as goal

pub retire_dead-requires-clause-retires : goal.retire_dead-requires-clause-retires
retire_dead-requires-clause-retires g c =
    subst (λ (m : PassModel). MayRetire m.view c.args.whose c.args.card c.args.nodes) (sym c.pass.view_is) c.requires.retires
