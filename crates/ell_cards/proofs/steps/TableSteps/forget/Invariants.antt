use Rattle.ell_cards.proofs.lemmas.shown.Reaching.{TellsKnown}
use Rattle.ell_cards.proofs.steps.TableSteps.forget.Given as goal

abbrev pub ghosts-load_as : goal.ghosts-load_as
ghosts-load_as g a = record { then = λ n w. TellsKnown a.self.now.plan a.pass.now.view n w }
