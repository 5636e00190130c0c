use Rattle.ell_run.proofs.lemmas.ByParts.{parts_serve}
use Rattle.ell_run.proofs.laws.by_parts.Goals as goal

pub returns : goal.returns
returns c = parts_serve
