use Rattle.std.proofs.Common.{◌==◌, ◌∙◌, sym, ap, subst}
use prog.Atomic.{either}
use Rattle.ell_cards.specs.Epochs.{slot_word}
use Rattle.ell_cards.specs.Stepping.{MayGoOn}
use Rattle.ell_cards.proofs.table.CardTable.exchange_retired.Goals as goal

pub epoch_exchange-requires-clause-rule : goal.epoch_exchange-requires-clause-rule
epoch_exchange-requires-clause-rule g c =
    subst (λ i. MayGoOn c.args.self.now.plan c.args.seat.now.me.0 i (λ n. either (n == c.args.word) c.args.other n) g.J.ParticipantTelling.then)
    (sym (c.slot_address.ensures.word ∙ ap (slot_word c.args.slots) c.slot_of.ensures)) c.requires.rule
