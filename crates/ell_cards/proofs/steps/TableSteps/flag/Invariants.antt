use Rattle.std.specs.Prelude.{◌==◌}
use Rattle.ell_cards.specs.Epochs.{after_flagging}
use Rattle.ell_cards.specs.Stepping.{IsTaken}
use Rattle.ell_cards.proofs.steps.TableSteps.flag.Given as goal

abbrev pub ghosts-flag_as : goal.ghosts-flag_as
ghosts-flag_as g a = record {
  then = λ n w. IsTaken a.self.now.plan a.call a.pass.now.view n w;
  notes = λ n p. after_flagging a.self.now.plan.slots (n == a.expected) a.card p;
}
