use Rattle.std.specs.Prelude.{◌≡◌, ◌==◌}
use Rattle.ell_cards.specs.RetiringInSlots.{MayRetireNext}
use Rattle.ell_cards.specs.Epochs.{after_retiring}
use Rattle.ell_cards.proofs.table.CardTable.retire_last.Given as goal

abbrev pub ghosts-exchange_retired : goal.ghosts-exchange_retired
ghosts-exchange_retired g a = record {
  then = λ n p. (p ≡ after_retiring (n == a.word) a.whose a.card a.nodes n a.seat.now.me.0.participant)
      × MayRetireNext a.seat.now.me.0.tree a.whose a.card a.nodes a.word n;
}
