use Rattle.ell_cards.proofs.lemmas.whole.Freeing.{reads_any}
use Rattle.ell_cards.proofs.table.CardTable.read_slot.Goals as goal

pub epoch_load-requires-clause-rule : goal.epoch_load-requires-clause-rule
epoch_load-requires-clause-rule g c =
    reads_any c.args.self.now.plan c.args.slots c.requires.seat.slots c.args.slot c.requires.slot c.args.seat.now.me.0 c.slot_address.result c.slot_address.ensures.word

pub returns-clause-read : goal.returns-clause-read
returns-clause-read g c = c.epoch_load.ensures.told c.args.slots c.args.slot c.requires.seat.slots c.slot_address.ensures.word
