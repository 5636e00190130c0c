use Rattle.ell_runs.proofs.lemmas.runs.Meanwhile.{searches_begin_there, searches_read_meanwhile, searches_meet_meanwhile, known_milestones_were_reached}
use Rattle.ell_runs.proofs.lemmas.runs.Tries.{tries_are_hindered_by_others}
use Rattle.ell_runs.proofs.laws.searches_read_meanwhile.Goals as goal

pub returns : goal.returns
returns c = record { begin = searches_begin_there; reads = searches_read_meanwhile; meets = searches_meet_meanwhile; reached = known_milestones_were_reached; few = tries_are_hindered_by_others }
