use Rattle.ell_cards.specs.Stepping.{IsTaken}
use Rattle.ell_cards.proofs.steps.TableSteps.load_marked.Given as goal

abbrev pub ghosts-load_marked_as : goal.ghosts-load_marked_as
ghosts-load_marked_as g a = record { then = λ n w. IsTaken a.self.now.plan a.call a.pass.now.view n w; call = a.call }
