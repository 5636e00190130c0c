use Rattle.ell_cards.specs.Stepping.{IsTaken}
use Rattle.ell_cards.proofs.steps.TableSteps.see_looked.Given as goal

abbrev pub ghosts-load_looked_as : goal.ghosts-load_looked_as
ghosts-load_looked_as g a = record { then = λ n w. IsTaken a.self.now.plan a.call a.pass.now.view n w; plan = a.self.now.plan }
