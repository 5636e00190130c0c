use Rattle.ell_cards.proofs.lemmas.whole.Words.{last_fits, epoch_inside}
use Rattle.ell_cards.proofs.table.CardTable.epoch_address.Goals as goal

pub epoch_word-requires : goal.epoch_word-requires
epoch_word-requires g c = last_fits _ _ c.self.view_is c.self.invariant.words c.self.invariant.fit c.args.slots c.requires.slots

pub returns-clause-inside : goal.returns-clause-inside
returns-clause-inside g c = epoch_inside _ _ c.self.view_is c.self.invariant.words c.self.invariant.fit c.args.slots c.requires.slots c.epoch_word.result c.epoch_word.ensures
