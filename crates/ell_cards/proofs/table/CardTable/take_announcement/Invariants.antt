use Rattle.std.specs.Prelude.{◌≡◌, ℕ, ◌<◌, Some}
use Rattle.ell_runs.specs.declared.view.Slots.{Slots}
use Rattle.ell_cards.specs.Epochs.{announcement_word, after_take}
use Rattle.ell_cards.proofs.table.CardTable.take_announcement.Given as goal

abbrev pub ghosts-epoch_exchange : goal.ghosts-epoch_exchange
ghosts-epoch_exchange g a = record {
  then = λ n p. (s : Slots) (q : ℕ) → a.self.now.plan.slots ≡ Some s → q < s.announcements → a.word ≡ announcement_word s q → p ≡ after_take q n a.seat.now.me.0.participant;
}
