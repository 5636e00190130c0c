use Rattle.ell_order.proofs.lemmas.Reordered.{orders_serve}
use Rattle.ell_order.proofs.laws.orders_serve.Goals as goal

pub returns : goal.returns
returns c = orders_serve
