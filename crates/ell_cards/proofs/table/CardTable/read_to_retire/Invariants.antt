use Rattle.std.specs.Prelude.{◌≡◌, false}
use Rattle.ell_cards.specs.RetiringInSlots.{MayRetireIn}
use Rattle.ell_cards.specs.Epochs.{after_retiring_read}
use Rattle.ell_cards.specs.Retiring.{is_done}
use Rattle.ell_cards.proofs.table.CardTable.read_to_retire.Given as goal

abbrev pub ghosts-load_retired : goal.ghosts-load_retired
ghosts-load_retired g a = record {
  then = λ n p. (p ≡ after_retiring_read a.whose a.card a.nodes n a.seat.now.me.0.participant)
      × (is_done a.whose a.card a.nodes n ≡ false → MayRetireIn a.seat.now.me.0.tree a.whose a.card a.nodes n);
}
