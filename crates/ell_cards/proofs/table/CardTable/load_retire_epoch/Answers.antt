use Rattle.std.proofs.Common.{sym, subst}
use Rattle.ell_cards.specs.Stepping.{MayGoOn}
use Rattle.ell_cards.proofs.table.CardTable.load_retire_epoch.Goals as goal

pub epoch_load-requires-clause-rule : goal.epoch_load-requires-clause-rule
epoch_load-requires-clause-rule g c =
    subst (λ i. MayGoOn c.args.self.now.plan c.args.seat.now.me.0 i (λ n. n) g.J.ParticipantTelling.then) (sym c.epoch_address.ensures.word) c.requires.rule
