use Rattle.ell_cards.specs.Stepping.{IsTaken}
use Rattle.ell_cards.proofs.steps.TableSteps.see.Given as goal

abbrev pub ghosts-load_as : goal.ghosts-load_as
ghosts-load_as g a = record { then = λ n w. IsTaken a.self.now.plan a.call a.pass.now.view n w }
