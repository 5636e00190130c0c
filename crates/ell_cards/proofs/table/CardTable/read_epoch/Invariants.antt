use Rattle.ell_cards.proofs.lemmas.whole.Going.{TellsEpoch}
use Rattle.ell_cards.proofs.table.CardTable.read_epoch.Given as goal

abbrev pub ghosts-epoch_load : goal.ghosts-epoch_load
ghosts-epoch_load g a = record { then = TellsEpoch a.seat.now.me.0.participant }
