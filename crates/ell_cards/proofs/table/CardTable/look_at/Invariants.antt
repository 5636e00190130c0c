use Rattle.std.specs.Prelude.{◌≡◌, Some}
use Rattle.ell_runs.specs.declared.view.Slots.{Slots}
use Rattle.ell_cards.specs.Epochs.{after_look_at}
use Rattle.ell_cards.proofs.table.CardTable.look_at.Given as goal

abbrev pub ghosts-epoch_load : goal.ghosts-epoch_load
ghosts-epoch_load g a = record {
  then = λ n p. (s : Slots) → a.self.now.plan.slots ≡ Some s → p ≡ after_look_at s.announcements n a.seat.now.me.0.participant;
}
