use Rattle.std.proofs.Common.{rules}
use Rattle.ell_order.specs.Mixing.{mixed}
use Rattle.ell_order.proofs.mixing.mixed.Goals as goal

pub returns : goal.returns
unfolding mixed
returns c = search rules
