use Rattle.std.proofs.Common.{◌≡◌, ℕ, ◌+◌, ◌≤◌, refl, sym, ap, ◌∙◌, subst, arith}
use Rattle.ell_cards.specs.Epochs.{after_announce}
use Rattle.ell_cards.specs.Stepping.{MayGoOn}
use Rattle.ell_cards.proofs.lemmas.whole.Going.{announces}
use Rattle.ell_cards.proofs.table.CardTable.announce.Goals as goal

pub epoch_store-requires-clause-rule : goal.epoch_store-requires-clause-rule
epoch_store-requires-clause-rule g c =
    let k = c.args.seat.now.me.0 in
    let n = c.args.epoch + 2 in
    subst (λ i. MayGoOn c.args.self.now.plan k i (λ _. n)
    (λ _ p. (epoch : ℕ) × (epoch + 2 ≡ n) × (global : ℕ) × (epoch ≤ global) × (p ≡ after_announce epoch global k.participant))) (sym c.announcement_address.ensures.word)
    (λ id t h homes here small.
    let x = announces c.args.self.now.plan c.args.slots c.requires.seat.slots k c.args.announcement c.args.epoch c.requires.announcement c.requires.quiet c.requires.epoch id t h homes here small in
    (x.0, x.1, x.2, x.3, ((c.args.epoch, refl, x.4.0.0, x.4.0.1, x.4.0.2), x.4.1, x.4.2, x.4.3)))

pub returns-clause-announced : goal.returns-clause-announced
returns-clause-announced g c =
    let told = c.epoch_store.ensures.told in
    let same : told.0 ≡ c.args.epoch = let two = told.1 in omega arith in
    (told.2, subst (λ r. r ≤ told.2) same told.3, told.4 ∙ ap (λ r. after_announce r told.2 c.args.seat.now.me.0.participant) same)
