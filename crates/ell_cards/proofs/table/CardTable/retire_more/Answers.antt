use Rattle.ell_cards.proofs.lemmas.whole.Retiring.{retires_nodes}
use Rattle.ell_cards.proofs.table.CardTable.retire_more.Goals as goal

pub exchange_retired-requires-clause-rule : goal.exchange_retired-requires-clause-rule
exchange_retired-requires-clause-rule g c =
    retires_nodes c.args.self.now.plan c.args.slots c.requires.seat.slots c.args.whose c.args.card c.args.nodes c.requires.seat.inside c.args.seat.now.me.0 c.requires.may.retires
    c.args.word c.args.retired c.requires.may.read c.requires.may.may c.requires.too c.requires.left

pub returns-clause-participant : goal.returns-clause-participant
returns-clause-participant g c = c.exchange_retired.ensures.told.0

pub returns-clause-next : goal.returns-clause-next
returns-clause-next g c = c.exchange_retired.ensures.told.1
