use Rattle.ell_cards.proofs.lemmas.whole.Retiring.{reads_to_retire}
use Rattle.ell_cards.proofs.table.CardTable.read_to_retire.Goals as goal

pub load_retired-requires-clause-rule : goal.load_retired-requires-clause-rule
load_retired-requires-clause-rule g c =
    reads_to_retire c.args.self.now.plan c.args.slots c.requires.seat.slots c.args.whose c.args.card c.args.nodes c.requires.seat.inside c.args.seat.now.me.0 c.requires.retires

pub returns-clause-read : goal.returns-clause-read
returns-clause-read g c = c.load_retired.ensures.told.0

pub returns-clause-may : goal.returns-clause-may
returns-clause-may g c = c.load_retired.ensures.told.1
