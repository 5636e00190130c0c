-- What was read of the claim word is past in every run.
use Rattle.std.proofs.Common.{ℕ, Option, slice_index, ap, subst, arith}
use Rattle.ell_runs.specs.Readings.{IsRead}
use Rattle.ell_cards.specs.Models.{PassModel, TableModel}
use Rattle.ell_runs.proofs.lemmas.runs.Readings.{readings_are_past}
use Rattle.ell_tree.specs.Ledgers.{TreeModel}
use Rattle.ell_tree.proofs.tree.Tree.cards_left.Goals as goal

pub returns-clause-most : goal.returns-clause-most
returns-clause-most g c = λ s reached seat there.
    let t = c.args.self.now in
    let reads = c.cards_left.ensures in
    let past = (readings_are_past t.plan s reached seat c.cards_left.new.pass.view there).next in
    let least = subst (λ (o : Option ℕ). IsRead (slice_index s.words 0) o) (ap (λ (p : PassModel). p.view.next) reads.step) past in
    let same = ap (λ (t : TreeModel). t.plan.last_card) c.self.view_is in
    let told = ap (λ (t : TableModel). t.plan.last_card) c.told_to.ensures in
    omega (arith, least, reads.all, same, told)
