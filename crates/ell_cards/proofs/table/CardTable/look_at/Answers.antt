use Rattle.std.proofs.Common.{◌≡◌, Some, sym, subst}
use Rattle.ell_runs.specs.declared.view.Slots.{Slots}
use Rattle.ell_cards.specs.Epochs.{after_look_at}
use Rattle.ell_cards.specs.Stepping.{MayGoOn}
use Rattle.ell_cards.proofs.lemmas.whole.Going.{looks_at}
use Rattle.ell_cards.proofs.table.CardTable.look_at.Goals as goal

pub epoch_load-requires-clause-rule : goal.epoch_load-requires-clause-rule
epoch_load-requires-clause-rule g c =
    let k = c.args.seat.now.me.0 in
    let plan = c.args.self.now.plan in
    subst (λ i. MayGoOn plan k i (λ n. n) (λ n p. (s : Slots) → plan.slots ≡ Some s → p ≡ after_look_at s.announcements n k.participant)) (sym c.announcement_address.ensures.word)
    (looks_at plan c.args.slots c.requires.seat.slots k c.args.announcement c.requires.next c.requires.there)

pub returns-clause-looked : goal.returns-clause-looked
returns-clause-looked g c = c.epoch_load.ensures.told c.args.slots c.requires.seat.slots
