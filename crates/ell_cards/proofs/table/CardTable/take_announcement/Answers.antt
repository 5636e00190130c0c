use Rattle.ell_cards.proofs.lemmas.whole.Going.{takes_any}
use Rattle.ell_cards.proofs.lemmas.whole.Steps.{found_free, found_taken}
use Rattle.ell_cards.proofs.table.CardTable.take_announcement.Goals as goal

pub epoch_exchange-requires-clause-rule : goal.epoch_exchange-requires-clause-rule
epoch_exchange-requires-clause-rule g c =
    takes_any c.args.self.now.plan c.args.slots c.requires.seat.slots c.args.seat.now.me.0 c.args.announcement c.announcement_address.result c.requires.there c.announcement_address.ensures.word

pub returns-clause-taken : goal.returns-clause-taken
returns-clause-taken g c =
    found_free c.args.announcement c.epoch_exchange.result c.args.seat.now.me.0.participant c.epoch_exchange.new.seat.me.0.participant
    (c.epoch_exchange.ensures.told c.args.slots c.args.announcement c.requires.seat.slots c.requires.there c.announcement_address.ensures.word)

pub returns-clause-lost : goal.returns-clause-lost
returns-clause-lost g c =
    found_taken c.args.announcement c.epoch_exchange.result c.args.seat.now.me.0.participant c.epoch_exchange.new.seat.me.0.participant
    (c.epoch_exchange.ensures.told c.args.slots c.args.announcement c.requires.seat.slots c.requires.there c.announcement_address.ensures.word)
