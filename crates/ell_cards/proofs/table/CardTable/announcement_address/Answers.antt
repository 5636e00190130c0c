use Rattle.ell_cards.proofs.lemmas.whole.Words.{last_fits, announcements_fit, announcement_inside}
use Rattle.ell_cards.proofs.table.CardTable.announcement_address.Goals as goal

pub announcement_word-requires-clause-last : goal.announcement_word-requires-clause-last
announcement_word-requires-clause-last g c = last_fits _ _ c.self.view_is c.self.invariant.words c.self.invariant.fit c.args.slots c.requires.slots

pub announcement_word-requires-clause-few : goal.announcement_word-requires-clause-few
announcement_word-requires-clause-few g c = announcements_fit _ _ c.self.view_is c.self.invariant.words c.self.invariant.fit c.args.slots c.requires.slots

pub returns-clause-inside : goal.returns-clause-inside
returns-clause-inside g c =
    announcement_inside _ _ c.self.view_is c.self.invariant.words c.self.invariant.fit c.args.slots c.requires.slots c.announcement_word.result c.args.announcement c.announcement_word.ensures
