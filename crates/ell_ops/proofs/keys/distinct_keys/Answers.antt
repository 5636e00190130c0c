use Rattle.ell_ops.proofs.lemmas.DistinctKeys.{distinct_keys}
use Rattle.ell_ops.proofs.keys.distinct_keys.Goals as goal

pub returns : goal.returns
returns g c = distinct_keys _ _ _ c.sort_unstable.ensures.permutation c.sort_unstable.ensures.sorted c.dedup.ensures.filtered
