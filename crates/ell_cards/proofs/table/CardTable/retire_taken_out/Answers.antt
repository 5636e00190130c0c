use Rattle.std.proofs.Common.{sym, subst}
use Rattle.ell_word.specs.Node.{card}
use Rattle.ell_cards.specs.declared.card_nodes.CardNodes.{CardNodes}
use Rattle.ell_cards.specs.RetiringInSlots.{AreTakenOut}
use Rattle.ell_runs.specs.Dead.{HasTakenOut}
use Rattle.ell_cards.proofs.lemmas.views.DeadNodes.{so_alone}
use Rattle.ell_cards.proofs.table.CardTable.retire_taken_out.Goals as goal

pub retire_nodes-requires-clause-retires : goal.retire_nodes-requires-clause-retires
retire_nodes-requires-clause-retires g c =
    let v = c.args.pass.now.view in
    let x = c.args.node in
    subst (λ y. AreTakenOut v y c.only.result) (sym c.card_of.ensures)
    (subst (λ (nodes : CardNodes). AreTakenOut v (card x) nodes) (sym c.only.ensures)
    (so_alone (HasTakenOut v) x c.requires.taken))
