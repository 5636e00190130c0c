use Rattle.std.proofs.Common.{◌∙◌, sym, ap, subst}
use Rattle.ell_cards.specs.Epochs.{slot_word}
use Rattle.ell_cards.specs.Stepping.{MayGoOn}
use Rattle.ell_cards.proofs.table.CardTable.load_retired.Goals as goal

pub epoch_load-requires-clause-rule : goal.epoch_load-requires-clause-rule
epoch_load-requires-clause-rule g c =
    subst (λ i. MayGoOn c.args.self.now.plan c.args.seat.now.me.0 i (λ n. n) g.J.ParticipantTelling.then)
    (sym (c.slot_address.ensures.word ∙ ap (slot_word c.args.slots) c.slot_of.ensures)) c.requires.rule
