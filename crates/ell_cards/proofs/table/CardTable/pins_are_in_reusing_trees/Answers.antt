use Rattle.std.proofs.Common.{ap, ◌∙◌, sym}
use Rattle.ell_cards.specs.Models.{PassModel, TableModel}
use Rattle.ell_cards.proofs.lemmas.seats.Opened.{own_size}
use Rattle.ell_cards.proofs.lemmas.whole.Standings.{outside_by}
use Rattle.ell_cards.proofs.table.CardTable.pins_are_in_reusing_trees.Goals as goal

pub returns : goal.returns
returns g c none =
    let size = own_size _ _ _ _ c.self.view_is c.pass.view_is c.requires.own c.self.invariant.words c.self.invariant.fit in
    ap (λ (m : PassModel). m.memory.is_pinned) (sym c.pass.view_is)
    ∙ outside_by (g.M.Memory.key c.self.inside.table) c.pass.inside.standing _ _ size c.pass.invariant.stands (ap (λ (m : TableModel). m.plan.slots) c.self.view_is ∙ none)
