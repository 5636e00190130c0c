use Rattle.std.proofs.Common.{◌≡◌, ◌∙◌, ap, subst}
use Rattle.ell_cards.specs.Models.{TableModel}
use Rattle.ell_cards.specs.Epochs.{whole_size}
use Rattle.ell_cards.proofs.lemmas.whole.Standings.{inside_by}
use Rattle.ell_cards.proofs.table.CardTable.pin.Goals as goal

pub returns-then-standing-clause-inside : goal.returns-then-standing-clause-inside
returns-then-standing-clause-inside g c =
    let size = subst (λ (m : TableModel). m.id.words ≡ whole_size m.plan) c.self.view_is c.self.invariant.words in
    inside_by c.args.self.now.plan c.args.standing.now _ _ (ap (λ i. i.words) c.requires.seat.own ∙ size) c.requires.fits c.if-standing.true
