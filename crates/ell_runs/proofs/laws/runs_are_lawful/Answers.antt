-- Turn by turn.
use Rattle.ell_runs.proofs.lemmas.runs.TurnsOfRuns.{runs_are_lawful}
use Rattle.ell_runs.proofs.lemmas.runs.WinsOfRuns.{runs_are_schedules}
use Rattle.ell_runs.proofs.lemmas.runs.Reaching.{reached_kept}
use Rattle.ell_runs.proofs.laws.runs_are_lawful.Goals as goal

pub returns : goal.returns
returns c = record { turns = runs_are_lawful; schedules = runs_are_schedules; reached = reached_kept }
