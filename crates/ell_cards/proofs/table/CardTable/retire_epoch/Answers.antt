use Rattle.ell_cards.specs.SlotWords.{card_by}
use Rattle.ell_cards.proofs.lemmas.whole.Freeing.{gets_retire_epoch_of_card}
use Rattle.ell_cards.proofs.table.CardTable.retire_epoch.Goals as goal

pub load_retire_epoch-requires-clause-rule : goal.load_retire_epoch-requires-clause-rule
load_retire_epoch-requires-clause-rule g c =
    gets_retire_epoch_of_card c.args.self.now.plan c.args.slots c.requires.seat.slots c.args.seat.now.me.0 (card_by c.args.slot c.args.word) c.requires.dead

pub returns-clause-retire_epoch : goal.returns-clause-retire_epoch
returns-clause-retire_epoch g c = c.load_retire_epoch.ensures.told.0

pub returns-clause-low : goal.returns-clause-low
returns-clause-low g c = c.load_retire_epoch.ensures.told.1

pub returns-clause-inside : goal.returns-clause-inside
returns-clause-inside g c = c.load_retire_epoch.ensures.told.2
