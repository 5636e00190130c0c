use Rattle.std.proofs.Common.{rules}
use Rattle.ell_cards.proofs.lemmas.views.Retiring.{cut_stays}
use Rattle.ell_cards.proofs.table.CardTable.retire_deleted.Goals as goal

-- what was retired of the parent and the leaf stays retired
pub returns-clause-lets_go : goal.returns-clause-lets_go
returns-clause-lets_go g c = λ s is.
    let cut = cut_stays s c.args.pass.now.view c.retire_cut.new.pass.memory.retired c.args.card c.all.result (c.retire_cut.ensures.retired s is) in
    search (rules, cut)
