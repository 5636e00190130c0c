-- By the acts of its own; the walk goes on as walks do.
use Rattle.ell_core.proofs.lemmas.following.Since.{searches_begin, searches_go_on}
use Rattle.ell_core.proofs.lemmas.following.Cleans.{cleans_go_on}
use Rattle.ell_core.proofs.laws.steps.searches_see_what_stands.Goals as goal

pub returns : goal.returns
returns c = record { begin = searches_begin; go_on = searches_go_on; cleans = cleans_go_on }
