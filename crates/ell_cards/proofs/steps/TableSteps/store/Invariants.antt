use Rattle.ell_cards.specs.Stepping.{IsTaken}
use Rattle.ell_cards.proofs.steps.TableSteps.store.Given as goal

abbrev pub ghosts-store_as : goal.ghosts-store_as
ghosts-store_as g a = record { then = λ n w. IsTaken a.self.now.plan a.call a.pass.now.view n w }
