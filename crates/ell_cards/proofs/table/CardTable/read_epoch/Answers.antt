use Rattle.std.proofs.Common.{sym, subst}
use Rattle.ell_cards.specs.Stepping.{MayGoOn}
use Rattle.ell_cards.proofs.lemmas.whole.Going.{TellsEpoch, read_epoch_goes_on}
use Rattle.ell_cards.proofs.table.CardTable.read_epoch.Goals as goal

pub epoch_load-requires-clause-rule : goal.epoch_load-requires-clause-rule
epoch_load-requires-clause-rule g c =
    subst (λ i. MayGoOn c.args.self.now.plan c.args.seat.now.me.0 i (λ n. n) (TellsEpoch c.args.seat.now.me.0.participant))
    (sym c.epoch_address.ensures.word) (read_epoch_goes_on c.args.self.now.plan c.args.slots c.requires.seat.slots c.args.seat.now.me.0)

pub returns-clause-epoch : goal.returns-clause-epoch
returns-clause-epoch g c = c.epoch_load.ensures.told.is

pub returns-clause-low : goal.returns-clause-low
returns-clause-low g c = c.epoch_load.ensures.told.low

pub returns-clause-later : goal.returns-clause-later
returns-clause-later g c = c.epoch_load.ensures.told.later

pub returns-clause-since : goal.returns-clause-since
returns-clause-since g c = c.epoch_load.ensures.told.since
