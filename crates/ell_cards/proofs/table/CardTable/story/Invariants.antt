use Rattle.ell_runs.specs.declared.call.Call.TheVariants as call
use Rattle.ell_cards.specs.Stepping.{IsTaken}
use Rattle.ell_cards.proofs.table.CardTable.story.Given as goal

abbrev pub ghosts-load_all_as : goal.ghosts-load_all_as
ghosts-load_all_as g a = record { then = λ n w. IsTaken a.self.now.plan call.Next a.pass.now.view n w; plan = a.self.now.plan }
