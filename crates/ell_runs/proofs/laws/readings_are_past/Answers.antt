-- Turn by turn, from a start on.
use Rattle.ell_runs.proofs.lemmas.runs.Readings.{readings_are_past}
use Rattle.ell_runs.proofs.lemmas.runs.Claims.{claims_are_won}
use Rattle.ell_runs.proofs.laws.readings_are_past.Goals as goal

pub returns : goal.returns
returns c = record { past = readings_are_past; claimed = claims_are_won }
