use Rattle.ell_cards.proofs.lemmas.whole.Words.{flat_there}
use Rattle.ell_cards.proofs.table.CardTable.reusing_trees_are_flat.Goals as goal

pub returns : goal.returns
returns g c = flat_there _ _ c.self.view_is c.self.invariant.fit
