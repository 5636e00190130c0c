use Rattle.std.proofs.Common.{◌≡◌, is_some, if◌then◌else◌, sym, ap, ◌∙◌, subst}
use Rattle.ell_cards.specs.Epochs.{after_give}
use Rattle.ell_cards.specs.Stepping.{MayGoOn}
use Rattle.ell_cards.proofs.lemmas.whole.Going.{gives_back}
use Rattle.ell_cards.proofs.lemmas.whole.Words.{kept_is}
use Rattle.ell_cards.proofs.table.CardTable.give_back.Goals as goal

pub epoch_store-requires-clause-rule : goal.epoch_store-requires-clause-rule
epoch_store-requires-clause-rule g c =
    let k = c.args.seat.now.me.0 in
    let s = c.in-Some-Some.slots in
    let placed = kept_is _ _ c.self.view_is c.self.invariant.words c.self.invariant.fit s _ c.self.invariant.slots c.in-Some-Some.is-0 in
    subst (λ i. MayGoOn c.args.self.now.plan k i (λ _. 0) (λ _ p. p ≡ after_give k.participant)) (sym c.announcement_address.ensures.word)
    (gives_back c.args.self.now.plan s placed k c.in-Some-Some.announcement (c.requires.other ∙ c.in-Some-Some.is-1))

pub returns-clause-given : goal.returns-clause-given
returns-clause-given g c =
    c.epoch_store.ensures.told
    ∙ sym (ap (λ o. if is_some o then after_give c.args.seat.now.me.0.participant else c.args.seat.now.me.0.participant) c.in-Some-Some.is-1)
