use Rattle.ell_cards.specs.Stepping.{IsTaken}
use Rattle.ell_cards.proofs.steps.TableSteps.see_pinned.Given as goal

abbrev pub ghosts-load_pinned_as : goal.ghosts-load_pinned_as
ghosts-load_pinned_as g a = record {
  then = λ n w. IsTaken a.self.now.plan a.call a.pass.now.view n w;
  call = a.call;
}
